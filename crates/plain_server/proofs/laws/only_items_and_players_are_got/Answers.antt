use Rattle.plain_server.specs.RecordsById.{opening}
use Rattle.plain_server.proofs.Frames.{opening_is}
use Rattle.plain_server.proofs.Takers.{only_got}
use Rattle.plain_server.proofs.laws.only_items_and_players_are_got.Goals as goal

pub returns : goal.returns
returns c = λ map frames journals is_map right. only_got map 0 (opening map) frames journals is_map (opening_is map is_map) right
