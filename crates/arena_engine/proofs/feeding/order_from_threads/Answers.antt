use Rattle.arena_engine.proofs.PutInOrder.{threads_send_all}
use Rattle.arena_engine.proofs.feeding.order_from_threads.Goals as goal

pub returns : goal.returns
returns g c = threads_send_all c.args.sent.now _ c.gather.ensures
