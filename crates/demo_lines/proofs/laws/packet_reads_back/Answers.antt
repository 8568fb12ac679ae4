use Rattle.std.proofs.Common.{refl}
use Rattle.demo_lines.proofs.Spellings.{packet_bytes-lower, packet_bytes-upper}
use Rattle.demo_lines.proofs.laws.packet_reads_back.Goals as goal

pub returns : goal.returns
returns c = record { dash = refl; lower = packet_bytes-lower; upper = packet_bytes-upper }
