use Rattle.std.proofs.Common.{◌≡◌, drop}
use Rattle.arena_map.specs.Maps.{solids_of}
use Rattle.client_ports.specs.FirstRefusals.{free_spawn}
use Rattle.client_ports.proofs.spawns.free_spawn.Given as goal

-- the first free spawn is among those that are left
abbrev pub invariant-loop-at : goal.invariant-loop-at
invariant-loop-at l =
    free_spawn (solids_of l.map) l.world.records l.slot (drop l.at-index l.map.spawns) ≡ free_spawn (solids_of l.map) l.world.records l.slot l.map.spawns
