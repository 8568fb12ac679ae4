use Rattle.areanode.proofs.tree.Tree.+leaves_from.Given as goal

abbrev pub decreases-leaves_from : goal.decreases-leaves_from
decreases-leaves_from l = l.levels
