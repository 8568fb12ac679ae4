use Rattle.std.proofs.Common.{◌∙◌}
use Rattle.core_seats.specs.Shown.{fixed_of}
use Rattle.core_seats.proofs.Fixing.{leaf_nodes_are}
use Rattle.core_seats.proofs.rules.Rules.leaves.Goals as goal

pub returns : goal.returns
returns g c =
    rw (← c.self.view_is)
    (leaf_nodes_are (fixed_of g.A.Action.meaning (record { action = c.self.inside.action.now; tree = c.self.inside.tree; start = c.self.inside.start.items })) c.self.inside.first_leaf c.args.region.now c.from.result _ c.self.invariant.depth c.self.invariant.leaf_is
    (c.from.ensures ∙ c.leaves_of.ensures.leaves) c.leaf_nodes.ensures.nodes)
