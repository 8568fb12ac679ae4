use Rattle.plain_server.proofs.Frames.{opening_is_as_the_map_says}
use Rattle.plain_server.proofs.laws.opening_is_as_the_map_says.Goals as goal

pub returns : goal.returns
returns c = opening_is_as_the_map_says
