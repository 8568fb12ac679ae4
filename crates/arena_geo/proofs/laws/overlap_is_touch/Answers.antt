use Rattle.arena_geo.proofs.Containment.{overlap_is_touch}
use Rattle.arena_geo.proofs.laws.overlap_is_touch.Goals as goal

pub returns : goal.returns
returns c = overlap_is_touch
