use Rattle.world_tree.proofs.Rising.{live_ids_rise}
use Rattle.world_tree.proofs.laws.live_ids_rise.Goals as goal

pub returns : goal.returns
returns c = live_ids_rise
