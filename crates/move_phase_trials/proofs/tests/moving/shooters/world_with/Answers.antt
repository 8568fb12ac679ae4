use Rattle.std.proofs.Common.{refl}
use Rattle.std.specs.List.{IsDistinct}
use Rattle.move_phase_trials.proofs.tests.moving.shooters.world_with.Goals as goal

pub new-requires-clause-apart : goal.new-requires-clause-apart
unfolding IsDistinct
new-requires-clause-apart c = ((refl, (refl, tt)), ((refl, tt), (tt, tt)))
