use Rattle.ruled_words.specs.Passes.{fixed_in}
use Rattle.region_locks.proofs.Stepping.{lists_node}
use Rattle.trial_passes.proofs.stepping.load_list.Goals as goal

pub load_list-requires-clause-next : goal.load_list-requires-clause-next
load_list-requires-clause-next g c κs within =
    lists_node (fixed_in g.A.Action.meaning c.args.table.now) c.args.pass.now c.args.step c.requires.next c.in_ok-node.node c.requires.kind c.in_ok-node.ensures
