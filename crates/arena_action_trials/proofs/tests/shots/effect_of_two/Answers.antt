use Rattle.arena_action_trials.proofs.RisingIds.{two_rise}
use Rattle.arena_action_trials.proofs.tests.shots.effect_of_two.Goals as goal

pub act-requires-clause-rising : goal.act-requires-clause-rising
act-requires-clause-rising g c = two_rise c.args.first.id c.args.second.id c.requires.rising
