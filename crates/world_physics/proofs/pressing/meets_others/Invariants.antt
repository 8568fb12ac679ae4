use Rattle.std.proofs.Common.{◌<◌}
use Rattle.world_tree.specs.Worlds.{IsLinked}
use Rattle.world_physics.specs.LiftSteps.{is_in_the_way}
use Rattle.world_physics.proofs.Finding.{IsNoneBelow}
use Rattle.world_physics.proofs.pressing.meets_others.Given as goal

-- no solid with a lower id is in the way
abbrev pub invariant-loop-id : goal.invariant-loop-id
invariant-loop-id l = record {
  none : IsNoneBelow (is_in_the_way l.step l.body) l.id l.world.records;
  linked : 0 < l.id → IsLinked l.world;
}
