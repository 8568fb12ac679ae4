use Rattle.std.proofs.Common.{◌≡◌, ◌+◌, ◌++◌, length, drop}
use Rattle.packet_read.specs.Commands.{moves_numbered_from}
use Rattle.client_ports.proofs.receive.moves_of_packet.Given as goal

-- those that have their numbers and those that are left are all
abbrev pub invariant-loop-block : goal.invariant-loop-block
invariant-loop-block l = record {
  count : length l.steps.items ≡ l.block-index;
  rest : l.steps.items ++ moves_numbered_from (l.first + l.block-index) (drop l.block-index l.packet.cmds) ≡ moves_numbered_from l.first l.packet.cmds;
}
