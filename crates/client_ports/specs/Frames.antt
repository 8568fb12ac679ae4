-- What holds of all packets of a frame together, and of the end of a frame.
use Rattle.std.specs.Prelude.{◌≡◌, ◌↔◌, ℕ, ◌+◌, ◌≤◌, ◌==◌, nat_lt, Bool, List, [], ◌∷◌, ◌++◌, length, take, drop, slice_get}
use Rattle.std.specs.Prelude.{map, filter, flat_map, count_by, All, Option, Some, None, IsSome, Result, Ok, Err}
use Rattle.std.specs.List.{IsDistinct, Contains}
use Rattle.std.specs.List.Sorted.{IsStrictlyIncreasing}
use Rattle.entity_recs.specs.declared.limits.TheConstants.{IDS}
use Rattle.entity_recs.specs.declared.rec.Rec.{Rec}
use Rattle.entity_recs.specs.Commands.{Command, is_same_move}
use Rattle.packet_read.specs.declared.move_packet.MovePacket.{MovePacket}
use Rattle.packet_read.specs.declared.packet.Packet.{Packet}
use Rattle.packet_read.specs.declared.packet_fault.PacketFault.{PacketFault}
use Rattle.packet_read.specs.Reading.{reading}
use Rattle.arena_map.specs.Maps.{MapView, IsMap}
use Rattle.arena_map.specs.Validity.{IsOpeningWorld, AreClear}
use Rattle.packet_read.specs.declared.arrival.Arrival.{Arrival}
use Rattle.client_ports.specs.declared.client.Client.{Client}
use Rattle.client_ports.specs.declared.received.Refused.{Refused}
use Rattle.packet_read.specs.Commands.{commands_of}
use Rattle.client_ports.specs.NewMoves.{last_in}
use Rattle.client_ports.specs.Clients.{no_clients, client_at, port_of, AreClients}
use Rattle.client_ports.specs.States.{State, state_of, IsServerState}
use Rattle.client_ports.specs.Finishing.{is_leaver, finished}
use Rattle.client_ports.specs.Lists.{no_lists}
use Rattle.client_ports.specs.Laws.{IsCommandOf}
use Rattle.client_ports.specs.Refusals.{RefusalHolds}
use Rattle.client_ports.specs.Receiving.{Receiving, receiving_of, after_arrival, received}

-- ---- the packets of a frame, in turn

-- the packets of a frame are taken in the order of arrival: first there is nothing, and each packet finds what those
-- before it came to, and has as its place how many they are
pub record PacketsAreTakenInTurn : Type 0 where
  pub none : (map : MapView) (frame : ℕ) (state : State) → received map frame state [] ≡ receiving_of state no_lists
  pub one_more : (map : MapView) (frame : ℕ) (state : State) (arrivals : List Arrival) (a : Arrival)
      → received map frame state (arrivals ++ a ∷ [])
      ≡ after_arrival map frame (received map frame state arrivals) (length arrivals) a

-- at its place is a packet for which the refusal holds, after the packets before it
pub record IsRefusedIn (map : MapView) (frame : ℕ) (state : State) (arrivals : List Arrival) (t : Refused) : Type 0 where
  pub a : Arrival
  pub at : slice_get arrivals t.place ≡ Some a
  pub holds : RefusalHolds map (received map frame state (take t.place arrivals)).state (reading a.bytes) a.port t.why

-- the places of refusals
abbrev pub places_of : List Refused → List ℕ
places_of refused = map (λ t. t.place) refused

-- the refusals of a frame are those of the packets at their places, each where it holds, and no others; their places
-- rise, so that each is listed once and in the order of arrival
pub record RefusalsHaveTheirPlaces : Type 0 where
  pub each : (map : MapView) (frame : ℕ) (state : State) (arrivals : List Arrival) (t : Refused) → IsMap map
      → IsServerState map state
      → Contains (received map frame state arrivals).lists.refused t ↔ IsRefusedIn map frame state arrivals t
  pub rising : (map : MapView) (frame : ℕ) (state : State) (arrivals : List Arrival)
      → IsStrictlyIncreasing (places_of (received map frame state arrivals).lists.refused)

-- ---- the packets of a frame, counted

-- how many clients leave at the end of the frame
abbrev pub leaver_count : List (Option Client) → ℕ
leaver_count clients = count_by is_leaver clients

-- the moves that come of each of the packets, the first of which has this place: none where it is refused, a join or a
-- leave
abbrev pub moves_from : MapView → ℕ → Receiving → ℕ → List Arrival → List (List Command)
moves_from map frame r place [] = []
moves_from map frame r place (a ∷ more) =
    let next = after_arrival map frame r place a in
    drop (length r.lists.moves) next.lists.moves ∷ moves_from map frame next (place + 1) more

-- the moves that come of each of the packets of a frame
abbrev pub moves_by_packet : MapView → ℕ → State → List Arrival → List (List Command)
moves_by_packet map frame state arrivals = moves_from map frame (receiving_of state no_lists) 0 arrivals

-- there is a move
abbrev pub is_some_move : List Command → Bool
is_some_move moves = nat_lt 0 (length moves)

-- as many refusals, joins, packets that give moves and new leavers come of a frame as packets came
abbrev pub EachPacketIsAnswered : Type 0
EachPacketIsAnswered = (map : MapView) (frame : ℕ) (state : State) (arrivals : List Arrival)
    → let next = received map frame state arrivals in
    length next.lists.refused + length next.lists.joined + count_by is_some_move (moves_by_packet map frame state arrivals)
    + leaver_count next.state.clients
    ≡ length arrivals + leaver_count state.clients

-- how many commands a packet has: none where it can't be read
abbrev pub command_count : Result Packet PacketFault → ℕ
command_count (Ok packet) = length (commands_of packet)
command_count (Err why) = 0

-- each packet gives at most as many moves as it has commands
abbrev pub HaveFewMoves : List (List Command) → List Arrival → Type 0
HaveFewMoves [] [] = Unit {0}
HaveFewMoves (moves ∷ others) (a ∷ more) = (length moves ≤ command_count (reading a.bytes)) × HaveFewMoves others more
HaveFewMoves _ _ = ⊥

-- the accepted moves of a frame are those that its packets give, in the order of arrival, and no packet gives more than
-- it has commands: so one of version 1 gives one at the most, and one of version 2 at most three
pub record MovesComeOfCommands : Type 0 where
  pub all : (map : MapView) (frame : ℕ) (state : State) (arrivals : List Arrival)
      → flat_map (λ moves. moves) (moves_by_packet map frame state arrivals) ≡ (received map frame state arrivals).lists.moves
  pub each : (map : MapView) (frame : ℕ) (state : State) (arrivals : List Arrival)
      → HaveFewMoves (moves_by_packet map frame state arrivals) arrivals

-- ---- the moves of a slot

-- the last accepted number of a slot's client, and 0 where the slot isn't live
abbrev pub last_of : Option Client → ℕ
last_of None = 0
last_of (Some c) = c.last

-- how many moves of a slot's client were accepted in the frame
abbrev pub move_count : Option Client → ℕ
move_count None = 0
move_count (Some c) = c.moves

-- the numbers of a slot's moves, in their order
abbrev pub numbers_of : ℕ → List Command → List ℕ
numbers_of slot moves = map (λ c. c.seq) (filter (λ c. c.slot == slot) moves)

-- a slot before and after a frame: the numbers of its moves rise strictly from the last one before the frame to the
-- last one after it, and each is counted
pub record IsAdvance (before after : Option Client) (numbers : List ℕ) : Type 0 where
  pub rise : IsStrictlyIncreasing (last_of before ∷ numbers)
  pub last : last_of after ≡ last_in (last_of before) numbers
  pub count : move_count after ≡ move_count before + length numbers

-- the accepted numbers of each slot rise strictly in a frame, from the last one before it
abbrev pub NumbersRiseInAFrame : Type 0
NumbersRiseInAFrame = (map : MapView) (frame : ℕ) (state : State) (arrivals : List Arrival) (slot : ℕ)
    → let next = received map frame state arrivals in
    IsAdvance (client_at state.clients slot) (client_at next.state.clients slot)
    (numbers_of slot next.lists.moves)

-- a player has at most 8 moves in a frame
abbrev pub PlayersHaveFewMoves : Type 0
PlayersHaveFewMoves =
    (map : MapView) (frame : ℕ) (state : State) (arrivals : List Arrival) (slot : ℕ) → AreClients state.clients
    → length (numbers_of slot (received map frame state arrivals).lists.moves) ≤ 8

-- no two accepted moves of a frame share slot and number
abbrev pub NumbersAreApart : Type 0
NumbersAreApart =
    (map : MapView) (frame : ℕ) (state : State) (arrivals : List Arrival)
    → IsDistinct is_same_move (received map frame state arrivals).lists.moves

-- a number that comes again is accepted once: no number comes twice among those of a slot's moves in a frame, and none
-- that was accepted before the frame
abbrev pub NumbersAreAcceptedOnce : Type 0
NumbersAreAcceptedOnce =
    (map : MapView) (frame : ℕ) (state : State) (arrivals : List Arrival) (slot n : ℕ)
    → let numbers = numbers_of slot (received map frame state arrivals).lists.moves in
    (count_by (λ m. m == n) numbers ≤ 1)
    × (n ≤ last_of (client_at state.clients slot) → count_by (λ m. m == n) numbers ≡ 0)

-- a move of a frame is a command of one of its packets: of one from the port of the client in its slot, with all that the
-- packet says of the command
pub record IsOfAPacket (frame : ℕ) (clients : List (Option Client)) (arrivals : List Arrival) (c : Command) : Type 0 where
  pub number : ℕ
  pub a : Arrival
  pub packet : Packet
  pub step : MovePacket
  pub at : slice_get arrivals number ≡ Some a
  pub read : reading a.bytes ≡ Ok packet
  pub said : Contains (commands_of packet) step
  pub fields : IsCommandOf frame c.slot step c
  pub own_port : port_of (client_at clients c.slot) ≡ Some a.port

-- each accepted move of a frame is one
abbrev pub MovesAreOfPackets : Type 0
MovesAreOfPackets = (map : MapView) (frame : ℕ) (state : State) (arrivals : List Arrival)
    → let next = received map frame state arrivals in
    All (IsOfAPacket frame next.state.clients arrivals) next.lists.moves

-- the slot of each accepted move is live after the packets
abbrev pub MoversAreLive : Type 0
MoversAreLive = (map : MapView) (frame : ℕ) (state : State) (arrivals : List Arrival)
    → let next = received map frame state arrivals in
    All (λ c. IsSome (client_at next.state.clients c.slot)) next.lists.moves

-- ---- what is kept

-- the state in which a server begins, with nobody joined and only the things of the map live, is a server's
abbrev pub OpeningIsAServerState : Type 0
OpeningIsAServerState =
    (map : MapView) (records : List (Option Rec)) → IsMap map → length records ≡ IDS → IsOpeningWorld map records
    → IsServerState map (state_of no_clients records)

-- ports stay apart, and moves few, through the packets and the end of a frame
abbrev pub ClientsStayApart : Type 0
ClientsStayApart = (map : MapView) (frame : ℕ) (state : State) (arrivals : List Arrival) → AreClients state.clients
    → AreClients (received map frame state arrivals).state.clients × AreClients (finished state).clients

-- a server's state stays one through the packets and the end of a frame: the live slots are the live players, and the
-- world is valid
abbrev pub StatesStayValid : Type 0
StatesStayValid =
    (map : MapView) (frame : ℕ) (state : State) (arrivals : List Arrival) → IsMap map → IsServerState map state
    → IsServerState map (received map frame state arrivals).state × IsServerState map (finished state)

-- so it is in the state in which a server begins
abbrev pub OpeningIsClear : Type 0
OpeningIsClear =
    (map : MapView) (records : List (Option Rec)) → IsMap map → IsOpeningWorld map records → AreClear map records

-- where players are clear before the packets of a frame they are after them, those that join too; and so at the end of
-- a frame
abbrev pub BodiesStayClear : Type 0
BodiesStayClear =
    (map : MapView) (frame : ℕ) (state : State) (arrivals : List Arrival) → IsMap map → IsServerState map state
    → AreClear map state.records
    → AreClear map (received map frame state arrivals).state.records × AreClear map (finished state).records
