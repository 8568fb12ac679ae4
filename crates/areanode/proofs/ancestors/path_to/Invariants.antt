use Rattle.std.proofs.Common.{◌≡◌, ◌+◌, ◌<◌, ◌==◌}
use Rattle.areanode.specs.Words.{any_below, word_of}
use Rattle.areanode.specs.Trees.{nodes_in, climb}
use Rattle.areanode.proofs.ancestors.path_to.Given as goal

abbrev pub invariant-loop : goal.invariant-loop
invariant-loop l = record {
  node : l.node ≡ climb l.counter l.start;
  path : l.path ≡ word_of (nodes_in l.depth) (λ node. any_below (l.counter + 1) (λ steps. climb steps l.start == node));
  below : l.node < nodes_in l.depth;
}
