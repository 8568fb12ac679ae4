use Rattle.arena_geo.proofs.CommonPoints.{overlap_is_common_cube}
use Rattle.arena_geo.proofs.laws.overlap_is_common_cube.Goals as goal

pub returns : goal.returns
returns c = overlap_is_common_cube
