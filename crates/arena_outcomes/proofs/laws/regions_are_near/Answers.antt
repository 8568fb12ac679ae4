use Rattle.arena_outcomes.proofs.Nearness.{regions_are_near}
use Rattle.arena_outcomes.proofs.laws.regions_are_near.Goals as goal

pub returns : goal.returns
returns c = regions_are_near
