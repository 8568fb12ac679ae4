use Rattle.std.specs.List.{IsDistinct}
use Rattle.byte_trials.proofs.tests.snapshots.empty_world.Goals as goal

pub new-requires-2-clause-apart : goal.new-requires-2-clause-apart
unfolding IsDistinct
new-requires-2-clause-apart g c = tt
