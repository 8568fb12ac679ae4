use Rattle.trigger_rules.proofs.Doing.{items_taken}
use Rattle.trigger_rules.proofs.laws.touched_items_are_taken.Goals as goal

pub returns : goal.returns
returns c = items_taken
