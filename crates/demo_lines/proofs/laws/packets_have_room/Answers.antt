use Rattle.demo_lines.proofs.Written.{packets_have_room}
use Rattle.demo_lines.proofs.laws.packets_have_room.Goals as goal

pub returns : goal.returns
returns c = packets_have_room
