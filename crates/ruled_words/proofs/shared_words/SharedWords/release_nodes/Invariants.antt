use Rattle.std.proofs.Common.{length, drop}
use Rattle.ruled_words.specs.Passes.{fixed_in}
use Rattle.ruled_words.proofs.GivenBack.{HasReleased}
use Rattle.ruled_words.proofs.shared_words.SharedWords.release_nodes.Given as goal

abbrev pub invariant-loop-node : goal.invariant-loop-node
invariant-loop-node g l =
    HasReleased (fixed_in g.A.Action.meaning l.self) (length l.self.rooms) l.self.table l.fn.hand l.hand (drop l.node-index l.nodes)
