use Rattle.arena_geo.proofs.CommonPoints.{touch_is_common_point}
use Rattle.arena_geo.proofs.laws.touch_is_common_point.Goals as goal

pub returns : goal.returns
returns c = touch_is_common_point
