use Rattle.std.proofs.Common.{◌≡◌, drop}
use Rattle.client_ports.specs.States.{state_of, IsState}
use Rattle.client_ports.specs.Receiving.{receiving_of, after_arrivals}
use Rattle.client_ports.proofs.Rooms.{HasRoomLeft}
use Rattle.client_ports.proofs.Linking.{IsLinkedSince}
use Rattle.client_ports.proofs.ports.Ports.receive.Given as goal

-- what the packets have come to so far and those that are left come to all, there is room for the rest, and the world has
-- the players that joined so far
abbrev pub invariant-loop-arrival : goal.invariant-loop-arrival
invariant-loop-arrival l = record {
  place : l.place ≡ l.arrival-index;
  room : l.out.room ≡ l.fn.out.room;
  left : HasRoomLeft l.arrival-index l.out.lists;
  linked : IsLinkedSince l.fn.world l.world l.out.lists.joined;
  tree : l.world.tree ≡ l.fn.world.tree;
  state : IsState l.map (state_of l.self l.world.records);
  rest : after_arrivals l.map l.frame (receiving_of (state_of l.self l.world.records) l.out.lists) l.place (drop l.arrival-index l.arrivals)
      ≡ after_arrivals l.map l.frame (receiving_of (state_of l.fn.self l.fn.world.records) l.fn.out.lists) 0 l.arrivals;
}
