use Rattle.plain_server.specs.RecordsById.{opening}
use Rattle.plain_server.proofs.Frames.{opening_is}
use Rattle.plain_server.proofs.Takers.{one_in_each}
use Rattle.plain_server.proofs.laws.items_have_one_taker.Goals as goal

pub returns : goal.returns
returns c = λ map frames journals is_map right. one_in_each map 0 (opening map) frames journals is_map (opening_is map is_map) right
