use Rattle.std.proofs.Common.{length}
use Rattle.link_lists.specs.Pool.{list_of}
use Rattle.world_tree.proofs.Chains.{rest_at}
use Rattle.world_tree.proofs.Marks.{KeepsCounting}
use Rattle.world_tree.proofs.walk.mark_counted.Given as goal

abbrev pub invariant-loop-at : goal.invariant-loop-at
invariant-loop-at g l = KeepsCounting l.lists l.list l.boxes l.region l.initial.marks l.initial.steps l.at l.marks l.steps

abbrev pub decreases-loop-at : goal.decreases-loop-at
decreases-loop-at g l = length (rest_at l.at (list_of l.lists l.list))
