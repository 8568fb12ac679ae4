use Rattle.std.proofs.Common.{◌≡◌, take}
use Rattle.std.specs.List.{list_any}
use Rattle.areanode.specs.Words.{word_of}
use Rattle.areanode.specs.Trees.{leaves_in, has_leaf}
use Rattle.areanode.proofs.tree.Tree.leaves_of.Given as goal

abbrev pub invariant-loop-b : goal.invariant-loop-b
invariant-loop-b l = l.leaves ≡ word_of (leaves_in l.self.depth) (λ leaf. list_any (λ one. has_leaf l.self one leaf) (take l.b-index l.b-items))
