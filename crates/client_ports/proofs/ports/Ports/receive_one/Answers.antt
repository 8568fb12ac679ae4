use Rattle.std.specs.List.{All}
use Rattle.std.proofs.Common.{◌≡◌, ◌+◌, ◌≤◌, List, length, Result, Ok, IfOk, sym, ap, ◌∙◌, subst, arith, rules}
use Rattle.packet_read.specs.declared.move_packet.MovePacket.{MovePacket}
use Rattle.packet_read.specs.declared.packet.Packet.{Packet}
use Rattle.packet_read.specs.declared.packet.Packet.TheVariants.{Leave, Move, Moves}
use Rattle.packet_read.specs.declared.packet_fault.PacketFault.{PacketFault}
use Rattle.packet_read.specs.Reading.{reading}
use Rattle.packet_read.specs.Spelling.{IsAllowedMoves}
use Rattle.client_ports.specs.States.{state_of}
use Rattle.packet_read.specs.Commands.{commands_of}
use Rattle.client_ports.specs.FirstRefusals.{move_answer}
use Rattle.client_ports.specs.NewMoves.{new_among, TakesItsTime}
use Rattle.client_ports.specs.Receiving.{Receiving, receiving_of, after_packet, after_commands}
use Rattle.client_ports.proofs.NewMoves.{steps-time}
use Rattle.client_ports.proofs.Rooms.{new_fit}
use Rattle.client_ports.proofs.ports.Ports.receive_one.Goals as goal

-- what is read of the packet
pub receive_moves-requires-clause-moves : goal.receive_moves-requires-clause-moves
receive_moves-requires-clause-moves c = λ apart.
    let read : Ok (Move c.in-Ok-Move.m) ≡ reading c.args.arrival.now.bytes = grind (arith, c.in-Ok-Move.is, c.in-Ok-Move.field-0-is, c.read_packet.ensures.answer, c.as_slice.ensures.value) in
    let r = receiving_of (state_of c.args.self.now c.args.world.now.records) c.args.out.now.lists in
    let steps = commands_of (Move c.in-Ok-Move.m) in
    let after : Result Packet PacketFault → Receiving = λ p. after_packet c.args.map.now c.args.frame p r c.args.place c.args.arrival.now.port in
    let fits = subst (λ (s : Receiving). length s.lists.moves ≤ c.args.out.now.room.moves) (sym (ap after read)) (c.requires.moves apart) in
    new_fit (move_answer c.args.self.now c.args.arrival.now.port steps) c.args.frame steps r c.args.place c.args.out.now.room.moves fits

pub returns-in-Ok-Move-clause-received : goal.returns-in-Ok-Move-clause-received
returns-in-Ok-Move-clause-received c =
    let read : Ok (Move c.in-Ok-Move.m) ≡ reading c.args.arrival.now.bytes = grind (arith, c.in-Ok-Move.is, c.in-Ok-Move.field-0-is, c.read_packet.ensures.answer, c.as_slice.ensures.value) in
    let r = receiving_of (state_of c.args.self.now c.args.world.now.records) c.args.out.now.lists in
    c.receive_moves.ensures.received c.args.world.now.records
    ∙ ap (λ (p : Result Packet PacketFault). after_packet c.args.map.now c.args.frame p r c.args.place c.args.arrival.now.port) read

pub returns-in-Ok-Leave-clause-received : goal.returns-in-Ok-Leave-clause-received
returns-in-Ok-Leave-clause-received c =
    let read : Ok Leave ≡ reading c.args.arrival.now.bytes = grind (arith, c.in-Ok-Leave.is, c.in-Ok-Leave.field-0-is, c.read_packet.ensures.answer, c.as_slice.ensures.value) in
    let r = receiving_of (state_of c.args.self.now c.args.world.now.records) c.args.out.now.lists in
    c.receive_leave.ensures.received c.args.world.now.records
    ∙ ap (λ (p : Result Packet PacketFault). after_packet c.args.map.now c.args.frame p r c.args.place c.args.arrival.now.port) read

pub receive_moves-requires-in-Ok-Moves-clause-steps : goal.receive_moves-requires-in-Ok-Moves-clause-steps
receive_moves-requires-in-Ok-Moves-clause-steps c =
    let allowed : IsAllowedMoves c.in-Ok-Moves.s = search rules in
    subst (All TakesItsTime) (sym (c.as_slice-in-Ok-Moves.ensures.value ∙ c.moves_of_packet-steps.ensures)) (steps-time c.in-Ok-Moves.s allowed)

pub receive_moves-requires-in-Ok-Moves-clause-moves : goal.receive_moves-requires-in-Ok-Moves-clause-moves
receive_moves-requires-in-Ok-Moves-clause-moves c = λ apart.
    let read : Ok (Moves c.in-Ok-Moves.s) ≡ reading c.args.arrival.now.bytes = grind (arith, c.in-Ok-Moves.is, c.in-Ok-Moves.field-0-is, c.read_packet.ensures.answer, c.as_slice.ensures.value) in
    let r = receiving_of (state_of c.args.self.now c.args.world.now.records) c.args.out.now.lists in
    let steps = commands_of (Moves c.in-Ok-Moves.s) in
    let after : Result Packet PacketFault → Receiving = λ p. after_packet c.args.map.now c.args.frame p r c.args.place c.args.arrival.now.port in
    let fits = subst (λ (s : Receiving). length s.lists.moves ≤ c.args.out.now.room.moves) (sym (ap after read)) (c.requires.moves apart) in
    subst (λ (steps : List MovePacket). IfOk (move_answer c.args.self.now c.args.arrival.now.port steps)
    (λ l. length c.args.out.now.lists.moves + length (new_among l.client.last steps) ≤ c.args.out.now.room.moves))
    (sym (c.as_slice-in-Ok-Moves.ensures.value ∙ c.moves_of_packet-steps.ensures))
    (new_fit (move_answer c.args.self.now c.args.arrival.now.port steps) c.args.frame steps r c.args.place c.args.out.now.room.moves fits)

pub returns-in-Ok-Moves-clause-received : goal.returns-in-Ok-Moves-clause-received
returns-in-Ok-Moves-clause-received c =
    let read : Ok (Moves c.in-Ok-Moves.s) ≡ reading c.args.arrival.now.bytes = grind (arith, c.in-Ok-Moves.is, c.in-Ok-Moves.field-0-is, c.read_packet.ensures.answer, c.as_slice.ensures.value) in
    let r = receiving_of (state_of c.args.self.now c.args.world.now.records) c.args.out.now.lists in
    c.receive_moves-in-Ok-Moves.ensures.received c.args.world.now.records
    ∙ ap (λ (steps : List MovePacket). after_commands c.args.frame steps r c.args.place c.args.arrival.now.port) (c.as_slice-in-Ok-Moves.ensures.value ∙ c.moves_of_packet-steps.ensures)
    ∙ ap (λ (p : Result Packet PacketFault). after_packet c.args.map.now c.args.frame p r c.args.place c.args.arrival.now.port) read
