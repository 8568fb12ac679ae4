use Rattle.match_play.proofs.LostPackets.{lost_packets_lose_none}
use Rattle.match_play.proofs.laws.lost_packets_lose_no_command.Goals as goal

pub returns : goal.returns
returns c = lost_packets_lose_none
