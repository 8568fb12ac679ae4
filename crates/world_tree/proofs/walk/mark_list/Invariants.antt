use Rattle.std.proofs.Common.{length}
use Rattle.link_lists.specs.Pool.{list_of}
use Rattle.world_tree.proofs.Chains.{rest_at}
use Rattle.world_tree.proofs.Marks.{KeepsMarking}
use Rattle.world_tree.proofs.walk.mark_list.Given as goal

abbrev pub invariant-loop-at : goal.invariant-loop-at
invariant-loop-at l = KeepsMarking l.lists l.list l.boxes l.region l.initial.marks l.at l.marks

abbrev pub decreases-loop-at : goal.decreases-loop-at
decreases-loop-at l = length (rest_at l.at (list_of l.lists l.list))
