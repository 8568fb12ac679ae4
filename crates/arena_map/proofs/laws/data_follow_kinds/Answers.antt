use Rattle.arena_map.proofs.ThingData.{data_follow_kinds}
use Rattle.arena_map.proofs.laws.data_follow_kinds.Goals as goal

pub returns : goal.returns
returns c = data_follow_kinds
