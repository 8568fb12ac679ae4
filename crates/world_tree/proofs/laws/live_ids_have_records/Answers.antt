use Rattle.world_tree.proofs.Rising.{live_ids_have_records}
use Rattle.world_tree.proofs.laws.live_ids_have_records.Goals as goal

pub returns : goal.returns
returns c = live_ids_have_records
