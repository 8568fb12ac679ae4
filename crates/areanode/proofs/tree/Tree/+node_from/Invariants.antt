use Rattle.areanode.proofs.tree.Tree.+node_from.Given as goal

abbrev pub decreases-node_from : goal.decreases-node_from
decreases-node_from l = l.levels
