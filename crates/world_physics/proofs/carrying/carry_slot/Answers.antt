use Rattle.std.proofs.Common.{◌≡◌, ◌∙◌, ap, sym, subst, arith, SFits, w32, ℤ, ◌+ℤ◌}
use Rattle.std.specs.Prelude.{Some}
use Rattle.entity_recs.specs.declared.rec.Rec.{Rec}
use Rattle.entity_recs.specs.Records.{IsRecord}
use Rattle.world_tree.specs.Live.{record_at}
use Rattle.world_physics.specs.LiftSteps.{record_raised_by, carried_along}
use Rattle.world_physics.proofs.Changes.{is_entry, live_with, relinked-changed}
use Rattle.world_physics.proofs.Ways.{near_fits}
use Rattle.world_physics.proofs.Carried.{kept-up, carried-raised}
use Rattle.world_physics.proofs.carrying.carry_slot.Goals as goal

pub carries-requires-clause-record : goal.carries-requires-clause-record
carries-requires-clause-record c = (is_entry c.args.world.now c.args.slot c.in-Some.r c.get.ensures.linked (sym c.get.ensures.record ∙ c.in-Some.is)).is_record

pub record_raised_by-requires : goal.record_raised_by-requires
record_raised_by-requires c =
    let at : record_at c.args.world.now.records c.args.slot ≡ Some c.in-Some.r = sym c.get.ensures.record ∙ c.in-Some.is in
    let there = c.requires.room.moved_is_record c.in-Some.r at (sym c.carries.ensures ∙ c.if-carries.true) in
    let near = there.origin.z in
    let P : ℤ → Type 0 = λ up. SFits w32 (c.in-Some.r.origin.z +ℤ up) in
    subst P (sym (kept-up c.args.step.now c.requires.step)) (near_fits (c.in-Some.r.origin.z +ℤ c.args.step.now.up) (omega (arith, near)))

pub relink-requires-clause-record : goal.relink-requires-clause-record
relink-requires-clause-record c =
    let at : record_at c.args.world.now.records c.args.slot ≡ Some c.in-Some.r = sym c.get.ensures.record ∙ c.in-Some.is in
    let there = c.requires.room.moved_is_record c.in-Some.r at (sym c.carries.ensures ∙ c.if-carries.true) in
    subst IsRecord (sym (c.record_raised_by.ensures ∙ ap (record_raised_by c.in-Some.r) (kept-up c.args.step.now c.requires.step))) there

pub relink-requires-clause-live : goal.relink-requires-clause-live
relink-requires-clause-live c =
    let at : record_at c.args.world.now.records c.args.slot ≡ Some c.in-Some.r = sym c.get.ensures.record ∙ c.in-Some.is in
    let entry = is_entry c.args.world.now c.args.slot c.in-Some.r c.get.ensures.linked at in
    live_with c.args.world.now.records c.args.slot c.in-Some.r c.record_raised_by.result at (ap (λ (r : Rec). r.id) c.record_raised_by.ensures ∙ entry.own_id)

pub returns-then-carries-clause-records : goal.returns-then-carries-clause-records
returns-then-carries-clause-records c =
    let at : record_at c.args.world.now.records c.args.slot ≡ Some c.in-Some.r = sym c.get.ensures.record ∙ c.in-Some.is in
    let entry = is_entry c.args.world.now c.args.slot c.in-Some.r c.get.ensures.linked at in
    relinked-changed c.args.world.now c.relink.new.self (carried_along c.args.step.now) c.args.slot c.in-Some.r c.record_raised_by.result at
    (carried-raised c.args.step.now c.in-Some.r c.record_raised_by.result (sym c.carries.ensures ∙ c.if-carries.true)
    (c.record_raised_by.ensures ∙ ap (record_raised_by c.in-Some.r) (kept-up c.args.step.now c.requires.step)))
    (ap (λ (r : Rec). r.id) c.record_raised_by.ensures ∙ entry.own_id) c.relink.ensures.world
