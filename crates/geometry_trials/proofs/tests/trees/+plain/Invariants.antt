use Rattle.geometry_trials.proofs.tests.trees.+plain.Given as goal

abbrev pub decreases-plain : goal.decreases-plain
decreases-plain l = l.levels
