use Rattle.plain_server.specs.RecordsById.{opening}
use Rattle.plain_server.proofs.Frames.{opening_is}
use Rattle.plain_server.proofs.Takers.{stay_away}
use Rattle.plain_server.proofs.laws.taken_items_stay_away.Goals as goal

pub returns : goal.returns
returns c = λ map frames journals is_map right. stay_away map 0 (opening map) frames journals is_map (opening_is map is_map) right
