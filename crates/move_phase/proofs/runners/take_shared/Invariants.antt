use Rattle.std.proofs.Common.{◌≡◌, vec_capacity}
use Rattle.std.specs.Arc.{arc_value}
use Rattle.move_phase.proofs.runners.take_shared.Given as goal

abbrev pub invariant-loop : goal.invariant-loop
invariant-loop g l =
    ((arc_value l.frame).shared ≡ (arc_value l.initial.frame).shared)
    × (vec_capacity (arc_value l.frame).moves ≡ vec_capacity (arc_value l.initial.frame).moves)
