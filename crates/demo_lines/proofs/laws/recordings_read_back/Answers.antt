use Rattle.demo_lines.proofs.RecordingsRead.{recordings_read_back, read_in_turn}
use Rattle.demo_lines.proofs.laws.recordings_read_back.Goals as goal

pub returns : goal.returns
returns c = record { in_order = recordings_read_back; in_turn = read_in_turn }
