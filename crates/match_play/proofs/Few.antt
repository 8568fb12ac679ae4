-- A frame has no more joins and refusals than packets.
use Rattle.std.proofs.Common.{◌≡◌, ℕ, ◌+◌, ◌≤◌, List, [], ◌∷◌, ◌++◌, length, Result, Ok, Err, sym, subst, arith}
use Rattle.std.proofs.lemmas.List.{length_push}
use Rattle.entity_recs.specs.declared.effect.Entry.{Entry}
use Rattle.packet_read.specs.declared.move_packet.MovePacket.{MovePacket}
use Rattle.packet_read.specs.declared.packet.Packet.{Packet}
use Rattle.packet_read.specs.declared.packet.Packet.TheVariants.{Join, Move, Leave, Moves}
use Rattle.packet_read.specs.declared.packet_fault.PacketFault.{PacketFault}
use Rattle.packet_read.specs.Commands.{commands_of}
use Rattle.packet_read.specs.Reading.{reading}
use Rattle.arena_map.specs.Maps.{MapView}
use Rattle.packet_read.specs.declared.arrival.Arrival.{Arrival}
use Rattle.client_ports.specs.declared.client.LiveSlot.{LiveSlot}
use Rattle.client_ports.specs.declared.received.Joined.{Joined}
use Rattle.client_ports.specs.declared.received.Refused.{Refused}
use Rattle.client_ports.specs.declared.refusal.Refusal.{Refusal}
use Rattle.client_ports.specs.declared.refusal.Refusal.TheVariants as refusal
use Rattle.client_ports.specs.declared.spawns.JoinPoint.{JoinPoint}
use Rattle.client_ports.specs.FirstRefusals.{join_answer, leave_answer, move_answer}
use Rattle.client_ports.specs.States.{State}
use Rattle.client_ports.specs.Lists.{Lists, no_lists}
use Rattle.client_ports.specs.Receiving.{Receiving, receiving_of, after_join, after_leave, after_move, after_packet, after_arrival, after_arrivals, received}
use Rattle.plain_server.specs.Frames.{state_after_tick, received_in}
use Rattle.match_play.specs.Totals.{HasFew}

-- how many joins and refusals the lists have
abbrev size : Lists → ℕ
size lists = length lists.joined + length lists.refused

abbrev HasOneMore : Receiving → Receiving → Type 0
HasOneMore r next = size next.lists ≤ size r.lists + 1

one_refused : (r : Receiving) (place : ℕ) (why : Refusal) → length (r.lists.refused ++ record { place = place; why = why } ∷ []) ≡ length r.lists.refused + 1
one_refused r place why = let x : Refused = record { place = place; why = why } in length_push r.lists.refused x

few_join : (to : Result JoinPoint Refusal) (r : Receiving) (place port : ℕ) → HasOneMore r (after_join to r place port)
few_join (Err why) r place port = omega (arith, one_refused r place why)
few_join (Ok to) r place port =
    let x : Joined = record { port = port; slot = to.slot } in omega (arith, length_push r.lists.joined x)

few_leave : (to : Result LiveSlot Refusal) (r : Receiving) (place : ℕ) → HasOneMore r (after_leave to r place)
few_leave (Err why) r place = omega (arith, one_refused r place why)
few_leave (Ok live) r place = omega arith

few_move : (to : Result LiveSlot Refusal) (frame : ℕ) (steps : List MovePacket) (r : Receiving) (place : ℕ) → HasOneMore r (after_move to frame steps r place)
few_move (Err why) frame steps r place = omega (arith, one_refused r place why)
few_move (Ok live) frame steps r place = omega arith

few_packet : (read : Result Packet PacketFault) (map_view : MapView) (frame : ℕ) (r : Receiving) (place port : ℕ) → HasOneMore r (after_packet map_view frame read r place port)
few_packet (Err why) map_view frame r place port = omega (arith, one_refused r place (refusal.Packet why))
few_packet (Ok Join) map_view frame r place port = few_join (join_answer map_view r.state port) r place port
few_packet (Ok (Move m)) map_view frame r place port = few_move (move_answer r.state.clients port (commands_of (Move m))) frame (commands_of (Move m)) r place
few_packet (Ok (Moves s)) map_view frame r place port = few_move (move_answer r.state.clients port (commands_of (Moves s))) frame (commands_of (Moves s)) r place
few_packet (Ok Leave) map_view frame r place port = few_leave (leave_answer r.state.clients port) r place

few_arrivals : (map_view : MapView) (frame : ℕ) (r : Receiving) (place : ℕ) (arrivals : List Arrival) → size (after_arrivals map_view frame r place arrivals).lists ≤ size r.lists + length arrivals
few_arrivals map_view frame r place [] = omega arith
few_arrivals map_view frame r place (a ∷ more) =
    let one : HasOneMore r (after_arrival map_view frame r place a) = few_packet (reading a.bytes) map_view frame r place a.port in
    let rest = few_arrivals map_view frame (after_arrival map_view frame r place a) (place + 1) more in
    omega (arith, one, rest)

few_received : (map_view : MapView) (frame : ℕ) (state : State) (arrivals : List Arrival) → size (received map_view frame state arrivals).lists ≤ length arrivals
unfolding received
few_received map_view frame state arrivals = omega (arith, few_arrivals map_view frame (receiving_of state no_lists) 0 arrivals)

-- a frame of at most 512 packets has few joins and refusals, and few moves where its journal is short
pub few_in_frame : (map_view : MapView) (frame : ℕ) (state : State) (arrivals : List Arrival) (lists : Lists) (journal : List Entry) → length arrivals ≤ 512
    → lists ≡ (received_in map_view frame state arrivals).lists → length journal ≤ 512 → HasFew lists journal
few_in_frame map_view frame state arrivals lists journal few is short =
    let all = few_received map_view frame (state_after_tick map_view frame state) arrivals in
    subst (λ (l : Lists). HasFew l journal) (sym is) (record { joined = omega (arith, all, few); refused = omega (arith, all, few); moves = short })
