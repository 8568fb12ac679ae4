use Rattle.areanode.specs.Words.{has_bit}
use Rattle.world_tree.proofs.Rounds.{passing, KeepsRound}
use Rattle.world_tree.proofs.walk.touched_triggers.Given as goal

abbrev pub invariant-loop-node : goal.invariant-loop-node
invariant-loop-node g l = KeepsRound l.count l.lists l.boxes l.region l.initial.marks l.initial.steps (passing (has_bit l.nodes) l.node) l.marks l.steps
