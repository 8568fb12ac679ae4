use Rattle.std.specs.List.{IsDistinct}
use Rattle.world_trials.proofs.tests.a_player_on_the_plane_is_linked_at_the_root.Goals as goal

pub new-requires-clause-apart : goal.new-requires-clause-apart
unfolding IsDistinct
new-requires-clause-apart g c = tt
