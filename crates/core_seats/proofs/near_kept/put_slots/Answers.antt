use Rattle.std.proofs.Common.{◌<◌, length, sym, ap, ◌∙◌, subst, arith}
use Rattle.world_tree.specs.Nears.{NearView}
use Rattle.core_seats.proofs.NearLists.{pushed_near}
use Rattle.core_seats.proofs.SlotLists.{ArePut, put_more, put_same}
use Rattle.core_seats.proofs.near_kept.put_slots.Goals as goal
use Rattle.core_seats.proofs.near_kept.put_slots.Goals.{in-Some, in_default}

pub loop-rest-preserved : goal.loop-rest-preserved
loop-rest-preserved c =
    let region = c.args.region.now in
    let six = c.args.by_slot.now in
    let rest = c.loop-rest.rest in
    let less = c.without_bit-rest.result in
    let slot = c.lowest_bit-slot.result in
    let low = c.lowest_bit-slot.ensures in
    elim c.match-near_player.branch [
      | in-Some w ↦
          let most = c.loop-rest.invariant.put.room slot low.there in
          let fits : length c.loop-rest.list.items < c.loop-rest.list.room = omega (arith, c.requires.room, most, low.below, c.loop-rest.invariant.room) in
          let pushed = w.list-is ∙ pushed_near c.loop-rest.list w.push.new.self w.in-Some.r w.push.result fits w.push.ensures.room w.push.ensures.records in
          record {
            put = subst (ArePut region six c.args.slots less) (sym (ap (λ (l : NearView). l.items) pushed))
                (put_more region six c.args.slots rest less slot c.loop-rest.list.items c.loop-rest.invariant.put low.below low.there low.first c.without_bit-rest.ensures.bits w.in-Some.r (sym c.near_player.ensures ∙ w.in-Some.is));
            room = ap (λ (l : NearView). l.room) pushed ∙ c.loop-rest.invariant.room;
          }
      | in_default w ↦
          record {
            put = subst (ArePut region six c.args.slots less) (sym (ap (λ (l : NearView). l.items) w.list-is))
                (put_same region six c.args.slots rest less slot c.loop-rest.list.items c.loop-rest.invariant.put low.below low.there low.first c.without_bit-rest.ensures.bits (sym c.near_player.ensures ∙ w.in_default.is));
            room = ap (λ (l : NearView). l.room) w.list-is ∙ c.loop-rest.invariant.room;
          }
    ]
