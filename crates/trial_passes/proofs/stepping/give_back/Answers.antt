use Rattle.ruled_words.specs.Passes.{fixed_in}
use Rattle.region_locks.proofs.Stepping.{gives_node}
use Rattle.trial_passes.proofs.stepping.give_back.Goals as goal

pub give_back-requires-clause-next : goal.give_back-requires-clause-next
give_back-requires-clause-next g c κs within =
    gives_node (fixed_in g.A.Action.meaning c.args.table.now) c.args.pass.now c.args.step c.requires.next c.in_ok-node.node c.requires.kind c.in_ok-node.ensures
