use Rattle.world_tree.proofs.Rising.{near_ids_rise, touching_ids_rise}
use Rattle.world_tree.proofs.laws.found_ids_rise.Goals as goal

pub returns-clause-near : goal.returns-clause-near
returns-clause-near c = near_ids_rise

pub returns-clause-touching : goal.returns-clause-touching
returns-clause-touching c = touching_ids_rise
