-- The numbers of accepted moves have 32 bits, as those of packets do.
use Rattle.std.proofs.Common.{◌≡◌, ℕ, ◌+◌, ◌<◌, ◌≤◌, ◌^◌, List, [], ◌∷◌, length, map as map_list, All, Result, Ok, Err, refl, arith}
use Rattle.std.specs.Prelude.{nat_lt}
use Rattle.std.proofs.lemmas.List.Elements.{All-append, All-cons, All-filter, All-head, All-tail, All-nil}
use Rattle.packet_read.specs.declared.move_packet.MovePacket.{MovePacket}
use Rattle.packet_read.specs.declared.packet.Packet.{Packet}
use Rattle.packet_read.specs.declared.packet.Packet.TheVariants.{Join, Move, Leave, Moves}
use Rattle.packet_read.specs.declared.packet_fault.PacketFault.{PacketFault}
use Rattle.packet_read.specs.declared.block_list.CmdBlock.{CmdBlock}
use Rattle.packet_read.specs.Commands.{commands_of, move_with_number, moves_numbered_from, first_seq}
use Rattle.packet_read.specs.Spelling.{Spells}
use Rattle.packet_read.specs.Reading.{reading}
use Rattle.packet_read.specs.Laws.{AreBytes}
use Rattle.packet_read.proofs.Rules.{read_spells}
use Rattle.arena_map.specs.Maps.{MapView}
use Rattle.packet_read.specs.declared.arrival.Arrival.{Arrival}
use Rattle.client_ports.specs.declared.client.LiveSlot.{LiveSlot}
use Rattle.client_ports.specs.declared.refusal.Refusal.{Refusal}
use Rattle.client_ports.specs.declared.spawns.JoinPoint.{JoinPoint}
use Rattle.client_ports.specs.NewMoves.{new_among}
use Rattle.client_ports.specs.FirstRefusals.{join_answer, leave_answer, move_answer}
use Rattle.client_ports.specs.States.{State}
use Rattle.client_ports.specs.Receiving.{Receiving, command_in, after_join, after_leave, after_move, after_packet, after_arrival, after_arrivals, received}
use Rattle.plain_server.specs.Moving.{HasSmallNumber}
use Rattle.plain_server.specs.Entries.{HasBytes}

small_join : (to : Result JoinPoint Refusal) (r : Receiving) (place port : ℕ) → All HasSmallNumber r.lists.moves → All HasSmallNumber (after_join to r place port).lists.moves
small_join (Err why) r place port small = small
small_join (Ok to) r place port small = small

small_leave : (to : Result LiveSlot Refusal) (r : Receiving) (place : ℕ) → All HasSmallNumber r.lists.moves → All HasSmallNumber (after_leave to r place).lists.moves
small_leave (Err why) r place small = small
small_leave (Ok live) r place small = small

-- the number of a command has 32 bits
abbrev IsSmall : MovePacket → Type 0
IsSmall m = m.seq < 2 ^ 32

small_commands : (frame slot : ℕ) (steps : List MovePacket) → All IsSmall steps → All HasSmallNumber (map_list (command_in frame slot) steps)
small_commands frame slot [] small = All-nil HasSmallNumber
small_commands frame slot (m ∷ steps) small =
    All-cons HasSmallNumber (command_in frame slot m) (map_list (command_in frame slot) steps) (All-head IsSmall m steps small) (small_commands frame slot steps (All-tail IsSmall m steps small))

small_move : (to : Result LiveSlot Refusal) (frame : ℕ) (steps : List MovePacket) (r : Receiving) (place : ℕ) → All IsSmall steps → All HasSmallNumber r.lists.moves
    → All HasSmallNumber (after_move to frame steps r place).lists.moves
small_move (Err why) frame steps r place fits small = small
small_move (Ok live) frame steps r place fits small =
    let new = new_among live.client.last steps in
    All-append HasSmallNumber r.lists.moves (map_list (command_in frame live.slot) new) small
    (small_commands frame live.slot new (All-filter (λ (m : MovePacket). nat_lt live.client.last m.seq) IsSmall steps fits))

small_packet : (read : Result Packet PacketFault) (map : MapView) (frame : ℕ) (r : Receiving) (place port : ℕ)
    → ((p : Packet) → read ≡ Ok p → All IsSmall (commands_of p)) → All HasSmallNumber r.lists.moves
    → All HasSmallNumber (after_packet map frame read r place port).lists.moves
small_packet (Err why) map frame r place port fits small = small
small_packet (Ok Join) map frame r place port fits small = small_join (join_answer map r.state port) r place port small
small_packet (Ok (Move m)) map frame r place port fits small =
    small_move (move_answer r.state.clients port (commands_of (Move m))) frame (commands_of (Move m)) r place (fits (Move m) refl) small
small_packet (Ok (Moves s)) map frame r place port fits small =
    small_move (move_answer r.state.clients port (commands_of (Moves s))) frame (commands_of (Moves s)) r place (fits (Moves s) refl) small
small_packet (Ok Leave) map frame r place port fits small = small_leave (leave_answer r.state.clients port) r place small

-- commands from a number on have small numbers where the last has
small_numbered : (first : ℕ) (blocks : List CmdBlock) → first + length blocks ≤ 2 ^ 32 → All IsSmall (moves_numbered_from first blocks)
small_numbered first [] most = All-nil IsSmall
small_numbered first (b ∷ more) most =
    All-cons IsSmall (move_with_number first b) (moves_numbered_from (first + 1) more) (omega (arith, most)) (small_numbered (first + 1) more (omega (arith, most)))

small_spelled : (bytes : List ℕ) (p : Packet) → Spells bytes p → All IsSmall (commands_of p)
small_spelled bytes Join s = All-nil IsSmall
small_spelled bytes (Move m) s = All-cons IsSmall m [] s.fits.seq (All-nil IsSmall)
small_spelled bytes Leave s = All-nil IsSmall
small_spelled bytes (Moves p) s = small_numbered (first_seq p) p.cmds (omega (arith, s.fits.seq, s.allowed.some, s.allowed.numbers))

-- the numbers of a packet that is read have 32 bits
small_read : (bytes : List ℕ) → AreBytes bytes → (p : Packet) → reading bytes ≡ Ok p → All IsSmall (commands_of p)
small_read bytes are p h = small_spelled bytes p (read_spells bytes are p h)

all_small : (map : MapView) (frame : ℕ) (r : Receiving) (place : ℕ) (arrivals : List Arrival) → All HasBytes arrivals
    → All HasSmallNumber r.lists.moves → All HasSmallNumber (after_arrivals map frame r place arrivals).lists.moves
all_small map frame r place [] bytes small = small
all_small map frame r place (a ∷ more) bytes small =
    all_small map frame (after_arrival map frame r place a) (place + 1) more (All-tail HasBytes a more bytes)
    (small_packet (reading a.bytes) map frame r place a.port (small_read a.bytes (All-head HasBytes a more bytes)) small)

-- the numbers of all accepted moves have 32 bits
pub numbers_are_small : (map : MapView) (frame : ℕ) (state : State) (arrivals : List Arrival) → All HasBytes arrivals
    → All HasSmallNumber (received map frame state arrivals).lists.moves
unfolding received
numbers_are_small map frame state arrivals bytes = all_small map frame _ 0 arrivals bytes (All-nil HasSmallNumber)
