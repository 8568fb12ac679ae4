-- The room of the lists: an arrival gives one join or one refusal or at most 3 moves, and a frame at most 512 moves.
use Rattle.std.proofs.Common.{◌≡◌, ◌⊎◌, inl, inr, ℕ, ◌+◌, ◌*◌, ◌<◌, ◌≤◌, List, [], ◌∷◌, length, map as map_list, Result, Ok, Err, IfOk, refl, sym, ap, ◌∙◌, subst, arith, length-append}
use Rattle.std.specs.Prelude.{min}
use Rattle.std.proofs.Math.Nat.{le-min, min-le_left, min-le_right}
use Rattle.std.proofs.lemmas.List.{length-map, length_push}
use Rattle.packet_read.specs.declared.move_packet.MovePacket.{MovePacket}
use Rattle.packet_read.specs.declared.packet.Packet.{Packet}
use Rattle.packet_read.specs.declared.packet_fault.PacketFault.{PacketFault}
use Rattle.packet_read.specs.Commands.{commands_of}
use Rattle.packet_read.specs.Reading.{reading}
use Rattle.arena_map.specs.Maps.{MapView}
use Rattle.entity_recs.specs.Commands.{Command}
use Rattle.packet_read.specs.declared.arrival.Arrival.{Arrival}
use Rattle.client_ports.specs.declared.client.LiveSlot.{LiveSlot}
use Rattle.client_ports.specs.declared.refusal.Refusal.{Refusal}
use Rattle.client_ports.specs.Clients.{AreClients}
use Rattle.client_ports.specs.NewMoves.{new_among}
use Rattle.client_ports.specs.States.{State}
use Rattle.client_ports.specs.Lists.{Lists, no_lists, Room, ReceivedView, most_moves, HasRoom, IsRoomFor, room_for}
use Rattle.client_ports.specs.Receiving.{Receiving, receiving_of, command_in, after_move, after_arrival, after_arrivals, received}
use Rattle.client_ports.specs.Frames.{command_count}
use Rattle.client_ports.specs.Laws.{IsRefused, IsJoined, IsLeave, IsMove}
use Rattle.client_ports.proofs.Facts.{one_answer}
use Rattle.client_ports.proofs.NewMoves.{read-few}
use Rattle.client_ports.proofs.Counts.{Gives, gives}
use Rattle.client_ports.proofs.Short.{few_if_clients}
use Rattle.client_ports.proofs.Staying.{clients-through}

-- after so many arrivals there are at most as many joins and refusals, and at most 3 moves of each
pub record HasRoomLeft (arrivals : ℕ) (l : Lists) : Type 0 where
  pub moves : length l.moves ≤ 3 * arrivals
  pub joined : length l.joined ≤ arrivals
  pub refused : length l.refused ≤ arrivals

-- a frame's lists have room for one join and one refusal more where an arrival is left
pub room_left : (n all : ℕ) (r : ReceivedView) → HasRoomLeft n r.lists → n < all → IsRoomFor all r.room → HasRoom r
room_left n all r left below fits = record {
  joined = omega (arith, left.joined, below, fits.joined);
  refused = omega (arith, left.refused, below, fits.refused);
}

-- the room for some packets is enough for fewer
pub room_enough : (n most : ℕ) → n ≤ most → IsRoomFor n (room_for most)
room_enough n most few = record {
  moves = let three : min (3 * n) 512 ≤ 3 * most = omega (arith, min-le_left (3 * n) 512, few) in le-min three (min-le_right (3 * n) 512);
  joined = few;
  refused = few;
}

-- an arrival has at most 3 commands
pub count-few : (read : Result Packet PacketFault) → ((p : Packet) → read ≡ Ok p → length (commands_of p) ≤ 3) → command_count read ≤ 3
count-few (Err why) few = omega arith
count-few (Ok p) few = few p refl

-- one arrival more
pub left_after : (n : ℕ) (map : MapView) (frame : ℕ) (r : Receiving) (place : ℕ) (a : Arrival) → HasRoomLeft n r.lists → HasRoomLeft (n + 1) (after_arrival map frame r place a).lists
left_after n map frame r place a left = record {
  moves = omega (arith, left.moves, ap (λ (l : List Command). length l) g.is, length-append r.lists.moves g.moves, g.few, count-few (reading a.bytes) (read-few a.bytes));
  joined = (by (one_answer map frame r place a)).0;
  refused = (by (one_answer map frame r place a)).1;
}
  where
    next : Receiving
    next = after_arrival map frame r place a

    g : Gives r next a
    g = gives map frame r place a

    few-in : (l : Lists) → next.lists ≡ l → length l.joined ≤ n + 1 → length l.refused ≤ n + 1 → (length next.lists.joined ≤ n + 1) × (length next.lists.refused ≤ n + 1)
    few-in l e joined refused = (omega (arith, ap (λ (m : Lists). length m.joined) e, joined), omega (arith, ap (λ (m : Lists). length m.refused) e, refused))

    by : (IsRefused r next place ⊎ IsJoined map r next a) ⊎ (IsLeave r next a ⊎ IsMove frame r next a) → (length next.lists.joined ≤ n + 1) × (length next.lists.refused ≤ n + 1)
    by (inl (inl f)) = few-in _ f.lists (omega (arith, left.joined)) (omega (arith, left.refused, length_push r.lists.refused (record { place = place; why = f.why })))
    by (inl (inr j)) = few-in _ j.lists (omega (arith, left.joined, length_push r.lists.joined (record { port = a.port; slot = j.to.slot }))) (omega (arith, left.refused))
    by (inr (inl l)) = few-in _ l.lists (omega (arith, left.joined)) (omega (arith, left.refused))
    by (inr (inr m)) = few-in _ m.lists (omega (arith, left.joined)) (omega (arith, left.refused))

-- the moves of the first packets of a frame are no more than those of all
pub moves_grow : (map : MapView) (frame : ℕ) (r : Receiving) (place : ℕ) (arrivals : List Arrival) → length r.lists.moves ≤ length (after_arrivals map frame r place arrivals).lists.moves
moves_grow map frame r place [] = omega arith
moves_grow map frame r place (a ∷ more) =
    let g = gives map frame r place a in
    omega (arith, ap (λ (l : List Command). length l) g.is, length-append r.lists.moves g.moves, moves_grow map frame (after_arrival map frame r place a) (place + 1) more)

-- the moves after one arrival more have room
pub moves_fit : (n all : ℕ) (map : MapView) (frame : ℕ) (r : Receiving) (place : ℕ) (a : Arrival) (more : List Arrival) (room : Room) (whole : Receiving) → HasRoomLeft n r.lists → n < all → IsRoomFor all room
    → after_arrivals map frame (after_arrival map frame r place a) (place + 1) more ≡ whole → length whole.lists.moves ≤ 512 → length (after_arrival map frame r place a).lists.moves ≤ room.moves
moves_fit n all map frame r place a more room whole left below fits e few =
    let next = after_arrival map frame r place a in
    let three : length next.lists.moves ≤ 3 * all = omega (arith, (left_after n map frame r place a left).moves, below) in
    let most : length next.lists.moves ≤ 512 = omega (arith, moves_grow map frame next (place + 1) more, ap (λ (s : Receiving). length s.lists.moves) e, few) in
    let both : length next.lists.moves ≤ most_moves all = le-min three most in
    omega (arith, both, fits.moves)

-- an accepted packet's new commands have room
pub new_fit : (to : Result LiveSlot Refusal) (frame : ℕ) (steps : List MovePacket) (r : Receiving) (place most : ℕ) → length (after_move to frame steps r place).lists.moves ≤ most
    → IfOk to (λ l. length r.lists.moves + length (new_among l.client.last steps) ≤ most)
new_fit (Err why) frame steps r place most fits = tt
new_fit (Ok live) frame steps r place most fits =
    let new = new_among live.client.last steps in
    omega (arith, fits, length-append r.lists.moves (map_list (command_in frame live.slot) new), length-map new (command_in frame live.slot))

-- all of a frame's moves are at most 512, where clients are apart after some of its packets
pub whole_few : (map : MapView) (frame : ℕ) (state : State) (lists : Lists) (arrivals : List Arrival) (r : Receiving) (place : ℕ) (rest : List Arrival) → AreClients r.state.clients
    → after_arrivals map frame r place rest ≡ after_arrivals map frame (receiving_of state lists) 0 arrivals → lists ≡ no_lists
    → length (after_arrivals map frame (receiving_of state lists) 0 arrivals).lists.moves ≤ 512
unfolding received
whole_few map frame state lists arrivals r place rest are left empty =
    let whole : Lists → Receiving = λ l. after_arrivals map frame (receiving_of state l) 0 arrivals in
    let all : after_arrivals map frame r place rest ≡ received map frame state arrivals = left ∙ ap whole empty in
    let after : AreClients (received map frame state arrivals).state.clients = subst (λ (q : Receiving). AreClients q.state.clients) all (clients-through map frame r place rest are) in
    subst (λ (l : Lists). length (whole l).lists.moves ≤ 512) (sym empty) (omega (arith, few_if_clients map frame state arrivals after))

-- one arrival more, in the words of what a call changes
pub left_next : (n : ℕ) (map : MapView) (frame : ℕ) (r next : Receiving) (place : ℕ) (a : Arrival) → next ≡ after_arrival map frame r place a → HasRoomLeft n r.lists → HasRoomLeft (n + 1) next.lists
left_next n map frame r next place a e left = subst (λ (s : Receiving). HasRoomLeft (n + 1) s.lists) (sym e) (left_after n map frame r place a left)
