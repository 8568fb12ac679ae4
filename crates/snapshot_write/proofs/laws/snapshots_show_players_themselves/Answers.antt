use Rattle.snapshot_write.proofs.OwnPart.{show_players_themselves}
use Rattle.snapshot_write.proofs.laws.snapshots_show_players_themselves.Goals as goal

pub returns : goal.returns
returns c = show_players_themselves
