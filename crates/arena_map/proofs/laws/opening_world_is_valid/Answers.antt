use Rattle.arena_map.proofs.Opening.{opening-is_valid}
use Rattle.arena_map.proofs.laws.opening_world_is_valid.Goals as goal

pub returns : goal.returns
returns c = opening-is_valid
