use Rattle.world_tree.proofs.Rising.{live_records_by_id}
use Rattle.world_tree.proofs.laws.live_records_by_id.Goals as goal

pub returns : goal.returns
returns c = live_records_by_id
