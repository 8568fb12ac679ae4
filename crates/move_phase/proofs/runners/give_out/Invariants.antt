use Rattle.std.proofs.Common.{◌≡◌, length, vec_capacity}
use Rattle.std.specs.Arc.{arc_value}
use Rattle.move_phase.specs.Turns.{IsTurnOf}
use Rattle.move_phase.proofs.Reversing.{IsReversing}
use Rattle.move_phase.proofs.runners.give_out.Given as goal

abbrev pub invariant-loop-pass : goal.invariant-loop-pass
invariant-loop-pass g l =
    IsReversing (IsTurnOf (arc_value l.frame)) l.fn.passes.items l.passes.items l.turns.items
    × (vec_capacity l.passes ≡ vec_capacity l.fn.passes) × (vec_capacity l.turns ≡ vec_capacity l.fn.turns)

abbrev pub decreases-loop-pass : goal.decreases-loop-pass
decreases-loop-pass g l = length l.passes.items
