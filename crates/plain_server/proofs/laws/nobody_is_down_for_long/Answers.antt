use Rattle.plain_server.proofs.Down.{nobody_down_for_long}
use Rattle.plain_server.proofs.laws.nobody_is_down_for_long.Goals as goal

pub returns : goal.returns
returns c = nobody_down_for_long
