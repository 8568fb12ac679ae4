use Rattle.plain_server.specs.RecordsById.{opening}
use Rattle.plain_server.proofs.Frames.{ports_apart_through, opening_apart}
use Rattle.plain_server.proofs.laws.ports_stay_apart.Goals as goal

pub returns : goal.returns
returns c = λ map frames journals. ports_apart_through map 0 (opening map) frames journals (opening_apart map)
