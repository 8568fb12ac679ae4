use Rattle.trigger_rules.proofs.Leaving.{left_without_room}
use Rattle.trigger_rules.proofs.laws.items_are_left_without_room.Goals as goal

pub returns : goal.returns
returns c = left_without_room
