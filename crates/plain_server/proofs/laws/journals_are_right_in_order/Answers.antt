use Rattle.plain_server.specs.RecordsById.{opening}
use Rattle.plain_server.proofs.Frames.{right_in_order, order_in_order}
use Rattle.plain_server.proofs.laws.journals_are_right_in_order.Goals as goal

pub returns : goal.returns
returns c = record {
  right = λ map frames. right_in_order map 0 (opening map) frames;
  order = λ map frames. order_in_order map 0 (opening map) frames;
}
