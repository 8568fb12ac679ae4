use Rattle.std.proofs.Common.{◌≡◌, ◌<◌}
use Rattle.world_tree.specs.Worlds.{IsLinked}
use Rattle.world_physics.specs.Returns.{record_after_returns}
use Rattle.world_physics.proofs.Changes.{IsChangedBelow}
use Rattle.world_physics.proofs.Returning.{IsStillBelow}
use Rattle.world_physics.proofs.returns.return_items.Given as goal

-- the items with lower ids have returned, and where none of them was due the world is as it was
abbrev pub invariant-loop-id : goal.invariant-loop-id
invariant-loop-id l = record {
  changed : IsChangedBelow (record_after_returns l.frame) l.id l.initial.world.records l.world.records;
  tree : l.world.tree ≡ l.initial.world.tree;
  still : IsStillBelow (record_after_returns l.frame) l.id l.initial.world l.world;
  linked : 0 < l.id → IsLinked l.world;
}
