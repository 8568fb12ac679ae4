-- What the point of the code says of the point of the definitions.
use Rattle.std.proofs.Common.{◌≡◌, ℕ, List, refl}
use Rattle.core_steps.specs.Points as core_points
use Rattle.core_machine.specs.declared.point.Queues.{Queues}
use Rattle.core_machine.specs.declared.point.Point.{Point}
use Rattle.core_machine.specs.declared.point.Point.TheVariants.{Idle, Owning, Taking, Checking, Entering, Entered, Loading, Leaving, Sensing, Resolving, Claiming, Storing, Releasing, Returning, Yielding}
use Rattle.core_machine.specs.Points.{point_of}

-- a point that isn't at an entered node
pub not_entered : {R : Type 0} (qs : Queues) (p : Point) (node : ℕ) (plan : List ℕ) → ((n : ℕ) → p ≡ Entered n → ⊥) → point_of qs p ≡ core_points.Entered node plan → R
not_entered qs Idle node plan other at = cc
not_entered qs Owning node plan other at = cc
not_entered qs Taking node plan other at = cc
not_entered qs Checking node plan other at = cc
not_entered qs (Entering n) node plan other at = cc
not_entered qs (Entered n) node plan other at = absurd (other n refl)
not_entered qs (Loading n) node plan other at = cc
not_entered qs (Leaving n) node plan other at = cc
not_entered qs Sensing node plan other at = cc
not_entered qs Resolving node plan other at = cc
not_entered qs Claiming node plan other at = cc
not_entered qs Storing node plan other at = cc
not_entered qs Releasing node plan other at = cc
not_entered qs Returning node plan other at = cc
not_entered qs Yielding node plan other at = cc
