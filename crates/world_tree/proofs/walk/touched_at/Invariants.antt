use Rattle.std.proofs.Common.{◌≡◌}
use Rattle.areanode.specs.Words.{has_bit}
use Rattle.world_tree.specs.Walks as walks
use Rattle.world_tree.proofs.Rounds.{passing}
use Rattle.world_tree.proofs.walk.touched_at.Given as goal

abbrev pub invariant-loop-node : goal.invariant-loop-node
invariant-loop-node l = l.marks ≡ walks.marked l.boxes l.region (walks.ids_at l.count l.lists (passing (has_bit l.nodes) l.node)) l.initial.marks
