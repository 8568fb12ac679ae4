use Rattle.bot_ways.proofs.PlanBounds.{plan_texts_are_bounded}
use Rattle.bot_ways.proofs.laws.plan_texts_are_bounded.Goals as goal

pub returns : goal.returns
returns c = plan_texts_are_bounded
