use Rattle.feed_queue.proofs.Ordering.{each_place_once}
use Rattle.feed_queue.proofs.laws.orders_have_each_place_once.Goals as goal

pub returns : goal.returns
returns c = each_place_once
