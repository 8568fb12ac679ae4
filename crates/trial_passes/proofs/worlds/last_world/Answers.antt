use Rattle.std.proofs.Common.{refl}
use Rattle.std.specs.List.{IsDistinct}
use Rattle.trial_passes.proofs.worlds.last_world.Goals as goal

pub new-requires-clause-apart : goal.new-requires-clause-apart
unfolding IsDistinct
new-requires-clause-apart c = ((refl, tt), (tt, tt))
