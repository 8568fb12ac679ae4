use Rattle.speed_rules.proofs.Together.{fliers_keep_their_course}
use Rattle.speed_rules.proofs.laws.fliers_keep_their_course.Goals as goal

pub returns : goal.returns
returns c = fliers_keep_their_course
