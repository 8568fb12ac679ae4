use Rattle.arena_outcomes.proofs.OnMaps.{short_replies}
use Rattle.arena_outcomes.proofs.laws.replies_are_short.Goals as goal

pub returns : goal.returns
returns c = short_replies
