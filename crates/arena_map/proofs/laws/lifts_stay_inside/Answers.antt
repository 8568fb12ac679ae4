use Rattle.arena_map.proofs.Lifts.{lifts_stay_inside}
use Rattle.arena_map.proofs.laws.lifts_stay_inside.Goals as goal

pub returns : goal.returns
returns c = lifts_stay_inside
