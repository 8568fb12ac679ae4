use Rattle.std.proofs.Common.{◌≡◌, length}
use Rattle.arena_actions.specs.MapActions.{map_in}
use Rattle.arena_actions.proofs.OfItsMap.{keeps_rules}
use Rattle.transcript_check.proofs.MovesRead.{MovesSoFar}
use Rattle.transcript_check.proofs.comparison.Comparison.expect_moves.Given as goal

-- the lines of some moves were read, and the others are left
abbrev pub invariant-loop-self : goal.invariant-loop-self
invariant-loop-self g l = record {
  so : MovesSoFar g.S.Source (map_in l.fn.self.mover.action) (keeps_rules l.fn.self.mover.action) l.fn.self.pending l.fn.world.records l.fn.source l.source l.fn.self.lines.input l.self.lines.input l.world.records l.self.pending;
  action : l.self.mover.action ≡ l.fn.self.mover.action;
}

abbrev pub decreases-loop-self : goal.decreases-loop-self
decreases-loop-self g l = length l.self.pending
