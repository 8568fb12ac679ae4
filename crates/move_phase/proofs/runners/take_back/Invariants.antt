use Rattle.std.proofs.Common.{◌≡◌, length, vec_capacity}
use Rattle.move_phase.specs.Turns.{HasPass}
use Rattle.move_phase.proofs.Reversing.{IsReversing}
use Rattle.move_phase.proofs.runners.take_back.Given as goal

abbrev pub invariant-loop-turn : goal.invariant-loop-turn
invariant-loop-turn g l =
    IsReversing HasPass l.fn.turns.items l.turns.items l.passes.items
    × (vec_capacity l.turns ≡ vec_capacity l.fn.turns) × (vec_capacity l.passes ≡ vec_capacity l.fn.passes)

abbrev pub decreases-loop-turn : goal.decreases-loop-turn
decreases-loop-turn g l = length l.turns.items
