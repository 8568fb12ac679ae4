use Rattle.std.proofs.Common.{map, ◌<◌, length, length-append, ◌++◌, [], ◌∷◌, ap, sym, ◌∙◌, arith}
use Rattle.core_seats.specs.PlayerReads.{player_read_of}
use Rattle.core_seats.specs.NearRecords.{near_one}
use Rattle.world_tree.specs.Nears.{NearView}
use Rattle.core_seats.proofs.NearLists.{near_more, near_same, pushed_near}
use Rattle.core_seats.proofs.near.put_near.Goals as goal
use Rattle.core_seats.proofs.near.put_near.Goals.{in-Some, in_default}

pub loop-r-preserved : goal.loop-r-preserved
loop-r-preserved c =
    let one = near_one c.args.region.now c.args.slot (map player_read_of c.args.others.now) c.args.states.now in
    elim c.match-near_read.branch [
      | in-Some w ↦
          let fits : length c.loop-r.list.items < c.loop-r.list.room = omega (arith, c.requires.room, c.loop-r.invariant.few, c.loop-r.invariant.room, c.loop-r-test.true) in
          let pushed = pushed_near c.loop-r.list w.push.new.self w.in-Some.one w.push.result fits w.push.ensures.room w.push.ensures.records in
          let items = ap (λ (l : NearView). l.items) pushed in
          rw w.list-is (record {
            list = items ∙ ap (λ rs. rs ++ w.in-Some.one ∷ []) c.loop-r.invariant.list
                ∙ sym (near_more one c.args.start.now c.loop-r.r-index w.in-Some.one _ c.loop-r-test.true (sym c.near_read.ensures ∙ w.in-Some.is));
            few = rw items (simp length-append (omega arith));
            room = ap (λ (l : NearView). l.room) pushed ∙ c.loop-r.invariant.room;
          })
      | in_default w ↦ rw w.list-is (record {
        list = c.loop-r.invariant.list ∙ sym (near_same one c.args.start.now c.loop-r.r-index _ c.loop-r-test.true (sym c.near_read.ensures ∙ w.in_default.is));
        few = omega arith;
        room = c.loop-r.invariant.room;
      })
    ]
