use Rattle.std.proofs.Common.{◌≡◌}
use Rattle.arena_map.specs.Maps.{MapView}
use Rattle.arena_map.specs.Validity.{IsValidWorld}
use Rattle.client_ports.specs.States.{state_of, HaveSameLive}
use Rattle.client_ports.specs.Finishing.{finished_up_to}
use Rattle.client_ports.specs.Linking.{without_ids}
use Rattle.client_ports.proofs.Linking.{leavers_below}
use Rattle.client_ports.proofs.ports.Ports.finish.Given as goal

-- the frame has ended for the slots so far
abbrev pub invariant-loop-slot : goal.invariant-loop-slot
invariant-loop-slot l = record {
  so_far : state_of l.self l.world.records ≡ finished_up_to (state_of l.fn.self l.fn.world.records) l.slot;
  world : l.world ≡ without_ids l.fn.world (leavers_below l.fn.self l.slot);
  tree : l.world.tree ≡ l.fn.world.tree;
  live : HaveSameLive l.self l.world.records;
  valid : (map : MapView) → IsValidWorld map l.fn.world.records → IsValidWorld map l.world.records;
}
