use Rattle.core_progress.proofs.Turns.{commands_in_hand_are_seen}
use Rattle.core_progress.proofs.laws.commands_in_hand_are_seen.Goals as goal

pub returns : goal.returns
returns c = commands_in_hand_are_seen
