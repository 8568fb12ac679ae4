use Rattle.std.specs.List.{IsDistinct}
use Rattle.world_trials.proofs.tests.queries_follow_a_player_that_moves_leaves_and_comes_back.Goals as goal

pub new-requires-clause-apart : goal.new-requires-clause-apart
unfolding IsDistinct
new-requires-clause-apart g c = tt
