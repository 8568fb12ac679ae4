-- Players that are carried.
use Rattle.std.specs.Prelude.{◌≡◌, ℕ, ◌≤◌, true, cond, List, Option}
use Rattle.std.proofs.Common.{sym, ap, ◌∙◌, arith, w32, to_z, of_z}
use Rattle.std.proofs.lemmas.Int.{to_z-of_z}
use Rattle.entity_recs.specs.declared.rec.Rec.{Rec}
use Rattle.world_tree.specs.Worlds.{WorldView, IsLinked}
use Rattle.world_physics.specs.declared.lift_step.LiftStep.{LiftStep}
use Rattle.world_physics.specs.Returns.{each_changed}
use Rattle.world_physics.specs.LiftSteps.{IsStep, HasRoom, is_carried, record_raised_by, carried_along}
use Rattle.world_physics.proofs.Changes.{IsChangedBelow, changed_all, is_entry}
use Rattle.world_physics.proofs.Finding.{not_carried_past}
use Rattle.world_physics.proofs.Ways.{near_fits}

-- how far up a step is, kept in 32 bits
pub kept-up : (step : LiftStep) → IsStep step → to_z w32 (of_z w32 step.up) ≡ step.up
kept-up step is = let far = is.far in to_z-of_z w32 step.up (near_fits step.up (omega (arith, far)))

-- a carried record is raised
pub carried-raised : (step : LiftStep) (r higher : Rec) → is_carried step r ≡ true → higher ≡ record_raised_by r step.up → higher ≡ carried_along step r
carried-raised step r higher carried is = is ∙ sym (ap (λ b. cond b (record_raised_by r step.up) r) carried)

-- a player in a slot that wasn't looked at has room as at the start
pub has_room : (step : LiftStep) (slot : ℕ) (old new : List (Option Rec)) → IsChangedBelow (carried_along step) slot old new → HasRoom step old slot → HasRoom step new slot
has_room step slot old new is room =
    record { moved_is_record = λ r at carried. room.moved_is_record r (sym (is.rest slot (omega arith)) ∙ at) carried }

-- after all slots all that are carried are
pub all_carried : (step : LiftStep) (slot : ℕ) (old : List (Option Rec)) (new : WorldView) → IsLinked new → 64 ≤ slot → IsChangedBelow (carried_along step) slot old new.records
    → new.records ≡ each_changed (carried_along step) old
all_carried step slot old new linked past is =
    changed_all (carried_along step) slot old new.records is (λ k r later at.
    ap (λ b. cond b (record_raised_by r step.up) r) (not_carried_past step k r (is_entry new k r linked (is.rest k later ∙ at)) (omega (arith, later, past))))
