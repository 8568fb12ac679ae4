use Rattle.std.proofs.Common.{◌≡◌, ◌<◌}
use Rattle.world_tree.specs.Worlds.{IsLinked}
use Rattle.world_physics.specs.LiftSteps.{carried_along}
use Rattle.world_physics.proofs.Changes.{IsChangedBelow}
use Rattle.world_physics.proofs.carrying.carry.Given as goal

-- the carried players in lower slots have moved
abbrev pub invariant-loop-slot : goal.invariant-loop-slot
invariant-loop-slot l = record {
  changed : IsChangedBelow (carried_along l.step) l.slot l.initial.world.records l.world.records;
  tree : l.world.tree ≡ l.initial.world.tree;
  linked : 0 < l.slot → IsLinked l.world;
}
