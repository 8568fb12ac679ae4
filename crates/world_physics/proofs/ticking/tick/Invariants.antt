use Rattle.std.proofs.Common.{◌≡◌, take}
use Rattle.arena_map.specs.Maps.{entities_of}
use Rattle.arena_map.specs.Validity.{IsValidWorld}
use Rattle.world_physics.specs.Returns.{after_returns}
use Rattle.world_physics.specs.Ticks.{after_things}
use Rattle.world_physics.proofs.Stillness.{IsStillSoFar}
use Rattle.world_physics.proofs.ticking.tick.Given as goal

-- the lifts among the things so far have made their steps, and where these changed no record the world is as it was
abbrev pub invariant-loop-thing : goal.invariant-loop-thing
invariant-loop-thing l =
    (l.world.records ≡ after_things l.map (after_returns l.frame l.fn.world.records) (take l.thing-index (entities_of l.map)))
    × (IsValidWorld l.map l.world.records × ((l.world.tree ≡ l.fn.world.tree) × IsStillSoFar l.map l.frame l.thing-index l.fn.world l.world))
