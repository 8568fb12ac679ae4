use Rattle.world_tree.proofs.Starts.{KeepsAdding}
use Rattle.world_tree.proofs.world.World.new.Given as goal

abbrev pub invariant-loop-r : goal.invariant-loop-r
invariant-loop-r l = KeepsAdding l.bounds l.depth l.start l.r-index l.world
