use Rattle.std.proofs.Common.{ap, sym, subst, ◌∙◌}
use Rattle.world_tree.specs.Live.{AreEntries}
use Rattle.world_tree.proofs.Found.{free_of_solids, blocked_by_one}
use Rattle.world_tree.proofs.world.World.free.Goals as goal

pub is_blocked_by_solids-requires : goal.is_blocked_by_solids-requires
is_blocked_by_solids-requires c = subst AreEntries (sym c.deref.ensures.value) c.self.invariant.linked.entries

pub returns-then-not-is_blocked_by_solids-clause-free : goal.returns-then-not-is_blocked_by_solids-clause-free
returns-then-not-is_blocked_by_solids-clause-free c =
    free_of_solids c.args.self.now.records c.deref.result.now c.args.body.now c.args.fixed.now c.args.except c.is_blocked.result
    c.is_blocked_by_solids.result c.is_blocked.ensures c.if-not-is_blocked_by_solids.true c.is_blocked_by_solids.ensures
    (c.deref.ensures.value ∙ ap (λ w. w.records) c.self.view_is)

pub returns-else-not-is_blocked_by_solids-clause-free : goal.returns-else-not-is_blocked_by_solids-clause-free
returns-else-not-is_blocked_by_solids-clause-free c =
    blocked_by_one c.args.self.now.records c.deref.result.now c.args.body.now c.args.fixed.now c.args.except
    c.is_blocked_by_solids.result c.if-not-is_blocked_by_solids.false c.is_blocked_by_solids.ensures
    (c.deref.ensures.value ∙ ap (λ w. w.records) c.self.view_is)
