use Rattle.std.specs.List.{IsDistinct}
use Rattle.world_trials.proofs.tests.a_world_has_room_for_every_id.Goals as goal

pub new-requires-clause-apart : goal.new-requires-clause-apart
unfolding IsDistinct
new-requires-clause-apart g c = tt
