use Rattle.arena_geo.proofs.Squares.{root_is_greatest}
use Rattle.arena_geo.proofs.laws.root_is_greatest.Goals as goal

pub returns : goal.returns
returns c = root_is_greatest
