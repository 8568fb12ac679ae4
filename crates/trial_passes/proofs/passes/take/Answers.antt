use Rattle.std.proofs.Common.{sym, ◌∙◌}
use Rattle.ruled_words.specs.Passes.{fixed_in}
use Rattle.region_locks.proofs.Stepping.{takes_node}
use Rattle.trial_passes.proofs.passes.take.Goals as goal

pub take-requires-clause-next : goal.take-requires-clause-next
take-requires-clause-next g c κs within =
    takes_node (fixed_in g.A.Action.meaning c.args.table.now) c.args.pass.now _ (sym c.next.ensures.step ∙ c.in-Some.is) c.args.node c.in-Take.is (c.if-step-node_word.false ∙ c.node_word.ensures)
