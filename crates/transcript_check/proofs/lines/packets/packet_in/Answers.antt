use Rattle.out_text.specs.Feeds.{from_line}
use Rattle.out_text.proofs.FedPackets.{arrival-in_range}
use Rattle.transcript_check.proofs.lines.packets.packet_in.Goals as goal

pub returns-clause-only : goal.returns-clause-only
returns-clause-only c = λ a is.
    c.packet_of.ensures.only a (c.read_line.ensures.only (from_line a) (record { in_range = arrival-in_range a is.fits; spelled = is.line_is }))
