use Rattle.std.proofs.Common.{sym, ◌∙◌, subst, SFits, w32, ◌+ℤ◌, ℤ}
use Rattle.std.proofs.lemmas.Int.{to_z-of_z}
use Rattle.world_physics.proofs.Ways.{way_fits, step-is}
use Rattle.world_physics.proofs.lift_step.LiftStep.of.Goals as goal

pub record_raised_by-requires : goal.record_raised_by-requires
record_raised_by-requires c =
    let fit = way_fits c.args.lift.now c.args.r.now c.requires in
    let P : ℤ → Type 0 = λ up. SFits w32 (c.args.r.now.origin.z +ℤ up) in
    let Q : ℤ → Type 0 = SFits w32 in
    let up : SFits w32 c.distance_up-up.result = subst Q (sym c.distance_up-up.ensures) fit.up in
    subst P (sym (to_z-of_z w32 c.distance_up-up.result up ∙ c.distance_up-up.ensures)) fit.place

pub returns : goal.returns
returns c =
    let fit = way_fits c.args.lift.now c.args.r.now c.requires in
    let Q : ℤ → Type 0 = SFits w32 in
    let up : SFits w32 c.distance_up-up.result = subst Q (sym c.distance_up-up.ensures) fit.up in
    step-is c.args.lift.now c.args.r.now c.record_raised_by.result c.distance_up-up.result _ c.next_state.result (to_z-of_z w32 c.distance_up-up.result up) c.distance_up-up.ensures
    c.record_raised_by.ensures c.next_state.ensures
