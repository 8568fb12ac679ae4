use Rattle.std.proofs.Common.{◌-◌, length}
use Rattle.packet_read.specs.declared.arrival.TheConstants.{MOST_ARRIVALS}
use Rattle.transcript_check.proofs.PacketsRead.{PacketsSoFar}
use Rattle.transcript_check.proofs.lines.Lines.read_packets.Given as goal

-- the packets so far were read
abbrev pub invariant-packets : goal.invariant-packets
invariant-packets g l = PacketsSoFar g.S.Source l.fn.source l.source l.fn.self.input l.self.input l.packets

abbrev pub decreases-packets : goal.decreases-packets
decreases-packets g l = MOST_ARRIVALS - length l.packets
