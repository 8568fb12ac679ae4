use Rattle.std.proofs.Common.{◌≡◌, Some, sym, ap, ◌∙◌, subst}
use Rattle.entity_recs.specs.declared.rec.Rec.{Rec}
use Rattle.entity_recs.specs.Records.{IsRecord}
use Rattle.world_tree.specs.Live.{record_at}
use Rattle.world_physics.proofs.Changes.{is_entry, live_with}
use Rattle.world_physics.proofs.Returning.{record_in_any_state}
use Rattle.transcript_check.proofs.Stating.{state-put, state-nowhere}
use Rattle.transcript_check.proofs.mover.put_state.Goals as goal

pub relink-requires-clause-record : goal.relink-requires-clause-record
relink-requires-clause-record c =
    let at : record_at c.args.world.now.records c.args.new.now.id ≡ Some c.in-Some.r = sym c.get.ensures.record ∙ c.in-Some.is in
    subst IsRecord (sym c.in_state.ensures) (record_in_any_state c.in-Some.r c.args.new.now.state (is_entry c.args.world.now c.args.new.now.id c.in-Some.r c.get.ensures.linked at).is_record)

pub relink-requires-clause-live : goal.relink-requires-clause-live
relink-requires-clause-live c =
    let at : record_at c.args.world.now.records c.args.new.now.id ≡ Some c.in-Some.r = sym c.get.ensures.record ∙ c.in-Some.is in
    let entry = is_entry c.args.world.now c.args.new.now.id c.in-Some.r c.get.ensures.linked at in
    live_with c.args.world.now.records c.args.new.now.id c.in-Some.r c.in_state.result at (ap (λ (r : Rec). r.id) c.in_state.ensures ∙ entry.own_id)

pub returns-in-Some : goal.returns-in-Some
returns-in-Some c =
    let at : record_at c.args.world.now.records c.args.new.now.id ≡ Some c.in-Some.r = sym c.get.ensures.record ∙ c.in-Some.is in
    state-put c.args.world.now c.relink.new.self c.args.new.now c.in-Some.r c.in_state.result c.get.ensures.linked.entries at c.in_state.ensures c.relink.ensures.world

pub returns-in_default : goal.returns-in_default
returns-in_default c = state-nowhere c.args.world.now.records c.args.new.now c.get.ensures.linked.entries (sym c.get.ensures.record ∙ c.in_default.is)
