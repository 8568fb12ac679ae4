use Rattle.feed_queue.proofs.Ordering.{each_port_kept}
use Rattle.feed_queue.proofs.laws.orders_keep_each_port.Goals as goal

pub returns : goal.returns
returns c = each_port_kept
