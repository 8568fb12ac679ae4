use Rattle.ruled_words.specs.Passes.{fixed_in}
use Rattle.region_locks.proofs.Stepping.{takes_node}
use Rattle.trial_passes.proofs.stepping.take_free.Goals as goal

pub take-requires-clause-next : goal.take-requires-clause-next
take-requires-clause-next g c κs within =
    takes_node (fixed_in g.A.Action.meaning c.args.table.now) c.args.pass.now c.args.step c.requires.next c.in_ok-node.node c.requires.kind c.in_ok-node.ensures
