use Rattle.std.proofs.Common.{◌≡◌, ◌∙◌, sym, ap, subst}
use Rattle.std.specs.Prelude.{Some}
use Rattle.entity_recs.specs.declared.rec.Rec.{Rec}
use Rattle.entity_recs.specs.Records.{IsRecord}
use Rattle.world_tree.specs.Live.{record_at}
use Rattle.world_physics.specs.Returns.{record_after_returns}
use Rattle.world_physics.proofs.Changes.{is_entry, live_with, relinked-changed}
use Rattle.world_physics.proofs.Returning.{record_in_any_state, due-returned, due_moves}
use Rattle.world_physics.proofs.returns.return_item.Goals as goal

pub relink-requires-clause-record : goal.relink-requires-clause-record
relink-requires-clause-record c =
    let at : record_at c.args.world.now.records c.args.id ≡ Some c.in-Some.r = sym c.get.ensures.record ∙ c.in-Some.is in
    subst IsRecord (sym c.back.ensures) (record_in_any_state c.in-Some.r 0 (is_entry c.args.world.now c.args.id c.in-Some.r c.get.ensures.linked at).is_record)

pub relink-requires-clause-live : goal.relink-requires-clause-live
relink-requires-clause-live c =
    let at : record_at c.args.world.now.records c.args.id ≡ Some c.in-Some.r = sym c.get.ensures.record ∙ c.in-Some.is in
    let entry = is_entry c.args.world.now c.args.id c.in-Some.r c.get.ensures.linked at in
    live_with c.args.world.now.records c.args.id c.in-Some.r c.back.result at (ap (λ (r : Rec). r.id) c.back.ensures ∙ entry.own_id)

pub returns-then-is_due-clause-records : goal.returns-then-is_due-clause-records
returns-then-is_due-clause-records c =
    let at : record_at c.args.world.now.records c.args.id ≡ Some c.in-Some.r = sym c.get.ensures.record ∙ c.in-Some.is in
    let entry = is_entry c.args.world.now c.args.id c.in-Some.r c.get.ensures.linked at in
    relinked-changed c.args.world.now c.relink.new.self (record_after_returns c.args.frame) c.args.id c.in-Some.r c.back.result at
    (due-returned c.args.frame c.in-Some.r c.back.result (sym c.is_due.ensures ∙ c.if-is_due.true) c.back.ensures)
    (ap (λ (r : Rec). r.id) c.back.ensures ∙ entry.own_id) c.relink.ensures.world

pub returns-then-is_due-clause-still : goal.returns-then-is_due-clause-still
returns-then-is_due-clause-still c = λ still.
    let at : record_at c.args.world.now.records c.args.id ≡ Some c.in-Some.r = sym c.get.ensures.record ∙ c.in-Some.is in
    absurd (due_moves c.args.frame c.args.world.now.records c.relink.new.self.records c.args.id c.in-Some.r at (sym c.is_due.ensures ∙ c.if-is_due.true)
    (returns-then-is_due-clause-records c) still)
