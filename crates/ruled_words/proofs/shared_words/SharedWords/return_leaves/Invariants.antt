use Rattle.std.proofs.Common.{◌≤◌, length}
use Rattle.ruled_words.specs.Passes.{fixed_in}
use Rattle.ruled_words.proofs.GivenBack.{HasReturned, leaves_in}
use Rattle.ruled_words.proofs.shared_words.SharedWords.return_leaves.Given as goal

abbrev pub invariant-loop-rest : goal.invariant-loop-rest
invariant-loop-rest g l =
    HasReturned (fixed_in g.A.Action.meaning l.self) (length l.self.rooms) l.self.table l.fn.hand l.hand (leaves_in (fixed_in g.A.Action.meaning l.self) l.rest) × (l.rest ≤ l.held.leaves)

abbrev pub decreases-loop-rest : goal.decreases-loop-rest
decreases-loop-rest g l = l.rest
