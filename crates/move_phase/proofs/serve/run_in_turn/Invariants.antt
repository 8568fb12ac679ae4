use Rattle.std.proofs.Common.{map}
use Rattle.entity_recs.specs.Commands.{command_of}
use Rattle.move_phase.proofs.InTurn.{HaveServedBelow}
use Rattle.move_phase.proofs.serve.run_in_turn.Given as goal

abbrev pub invariant-loop-pass : goal.invariant-loop-pass
invariant-loop-pass g l = HaveServedBelow (map command_of l.moves) l.shared l.pass-index l.fn.passes.items l.pass-items
