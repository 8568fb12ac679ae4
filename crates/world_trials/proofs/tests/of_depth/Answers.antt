use Rattle.std.specs.List.{IsDistinct}
use Rattle.world_trials.proofs.tests.of_depth.Goals as goal

pub new-requires-clause-apart : goal.new-requires-clause-apart
unfolding IsDistinct
new-requires-clause-apart g c = tt
