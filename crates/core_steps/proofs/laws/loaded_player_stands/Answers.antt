use Rattle.core_steps.proofs.Players.{loaded_player_stands}
use Rattle.core_steps.proofs.laws.loaded_player_stands.Goals as goal

pub returns : goal.returns
returns c = loaded_player_stands
