use Rattle.std.proofs.Common.{◌<◌}
use Rattle.world_tree.specs.Worlds.{IsLinked}
use Rattle.world_physics.specs.LiftSteps.{is_pressed}
use Rattle.world_physics.proofs.Finding.{IsNoneBelow}
use Rattle.world_physics.proofs.pressing.is_stopped.Given as goal

-- no player in a lower slot is pressed
abbrev pub invariant-loop-slot : goal.invariant-loop-slot
invariant-loop-slot l = record {
  none : IsNoneBelow (is_pressed l.map l.step l.world.records) l.slot l.world.records;
  linked : 0 < l.slot → IsLinked l.world;
}
