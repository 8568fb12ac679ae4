use Rattle.std.proofs.Common.{[], length, drop}
use Rattle.ruled_words.specs.Passes.{fixed_in}
use Rattle.ruled_words.proofs.GivingUp.{HasLeft}
use Rattle.ruled_words.proofs.shared_words.SharedWords.give_up.Given as goal

abbrev pub invariant-loop-node : goal.invariant-loop-node
invariant-loop-node g l =
    HasLeft (fixed_in g.A.Action.meaning l.self) (length l.self.rooms) l.self.table l.fn.hand l.hand l.begins (drop l.node-index l.nodes) l.leaves

abbrev pub invariant-loop-leaf : goal.invariant-loop-leaf
invariant-loop-leaf g l =
    HasLeft (fixed_in g.A.Action.meaning l.self) (length l.self.rooms) l.self.table l.fn.hand l.hand l.begins [] (drop l.leaf-index l.leaves)
