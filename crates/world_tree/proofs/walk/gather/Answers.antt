use Rattle.std.proofs.Common.{◌++◌, List, ap, sym, refl, ◌∙◌, arith}
use Rattle.std.proofs.lemmas.List.{append-nil}
use Rattle.entity_recs.specs.declared.rec.Rec.{Rec}
use Rattle.world_tree.specs.Nears.{NearView}
use Rattle.world_tree.specs.Walks.{picked}
use Rattle.world_tree.proofs.Picks.{picked-past, picking-skips, picking-takes}
use Rattle.world_tree.proofs.walk.gather.Goals as goal
use Rattle.world_tree.proofs.walk.gather.Goals.{in-Some, in_default}

pub loop-id-init : goal.loop-id-init
loop-id-init c = record {
  picks = ap (λ (xs : List Rec). xs ++ picked c.args.marks.now c.args.records.now) c.requires.empty;
  room = refl;
}

pub loop-id-preserved : goal.loop-id-preserved
loop-id-preserved c =
    elim c.match-marked_record.branch [
      | in-Some w ↦
          let took = picking-takes c.args.marks.now c.args.records.now c.loop-id.out.items _ c.loop-id.id (omega arith) c.loop-id-test.true c.loop-id.invariant.picks
          w.in-Some.r w.push.result c.loop-id.out.room w.push.new.self (ap (λ (l : NearView). l.items) w.out-is) (omega arith) (omega arith)
          (sym c.marked_record.ensures ∙ w.in-Some.is) w.push.ensures.room w.push.ensures.records in
          record { picks = took.0; room = ap (λ (l : NearView). l.room) w.out-is ∙ took.1 ∙ c.loop-id.invariant.room }
      | in_default w ↦ record {
        picks = picking-skips c.args.marks.now c.args.records.now c.loop-id.out.items _ c.loop-id.id (omega arith) c.loop-id-test.true c.loop-id.invariant.picks
            (ap (λ (l : NearView). l.items) w.out-is) (sym c.marked_record.ensures ∙ w.in_default.is);
        room = ap (λ (l : NearView). l.room) w.out-is ∙ c.loop-id.invariant.room;
      }
    ]

pub returns : goal.returns
returns c =
    let all = sym (append-nil c.loop-id.out.items)
    ∙ ap (λ (xs : List Rec). c.loop-id.out.items ++ xs) (sym (picked-past c.args.marks.now c.args.records.now c.loop-id.id c.loop-id-test.false))
    ∙ c.loop-id.invariant.picks in
    ap (λ (xs : List Rec). record { items = xs; room = c.loop-id.out.room }) all
    ∙ ap (λ n. record { items = picked c.args.marks.now c.args.records.now; room = n }) c.loop-id.invariant.room
