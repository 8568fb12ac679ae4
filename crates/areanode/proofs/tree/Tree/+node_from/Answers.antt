use Rattle.std.proofs.Common.{arith}
use Rattle.areanode.specs.Cuts.{is_above, is_below}
use Rattle.areanode.proofs.WaysDown.{level_above, level_below, node_fits, parts_of_inner, cut_of_inner, test_at, walk_end, walk_above, walk_below, walk_stop}
use Rattle.areanode.proofs.tree.Tree.+node_from.Goals as goal

pub returns-then-levels-eq0 : goal.returns-then-levels-eq0
returns-then-levels-eq0 t c = walk_end _ _ _ _ c.if-levels-eq0.true

pub offset_bounds-self-inside-node : goal.offset_bounds-self-inside-node
offset_bounds-self-inside-node t c =
    omega (arith, node_fits _ _ _ c.requires.depth (omega arith) c.requires.level)

pub bounds-self-inside-node : goal.bounds-self-inside-node
bounds-self-inside-node t c = node_fits _ _ _ c.requires.depth (omega arith) c.requires.level

pub listed : goal.listed
listed t c =
    omega (arith, c.self.told, node_fits _ _ _ c.requires.depth (omega arith) c.requires.level)

pub node_from-requires : goal.node_from-requires
node_from-requires t c = (omega arith, (c.requires.depth, level_above _ _ _ (omega arith) c.requires.level))

pub node_from-requires-then-is_below : goal.node_from-requires-then-is_below
node_from-requires-then-is_below t c = (omega arith, (c.requires.depth, level_below _ _ _ (omega arith) c.requires.level))

pub returns-then-is_above : goal.returns-then-is_above
returns-then-is_above t c =
    let parts = parts_of_inner _ _ _ c.self.invariant c.self.view_is _ _ (omega arith) c.requires.level in
    let cut = cut_of_inner _ _ _ c.self.invariant c.self.view_is _ _ (omega arith) c.requires.level _ _ c.cut_of-cut.ensures in
    let above = test_at _ _ (is_above c.args.b.now) _ _ c.if-is_above.true c.is_above.ensures cut in
    walk_above _ _ _ _ _ (omega arith) parts above c.node_from.ensures

pub returns-then-is_below : goal.returns-then-is_below
returns-then-is_below t c =
    let parts = parts_of_inner _ _ _ c.self.invariant c.self.view_is _ _ (omega arith) c.requires.level in
    let cut = cut_of_inner _ _ _ c.self.invariant c.self.view_is _ _ (omega arith) c.requires.level _ _ c.cut_of-cut.ensures in
    let above = test_at _ _ (is_above c.args.b.now) _ _ c.if-is_above.false c.is_above.ensures cut in
    let below = test_at _ _ (is_below c.args.b.now) _ _ c.if-is_below.true c.is_below.ensures cut in
    walk_below _ _ _ _ _ (omega arith) parts above below c.node_from-then-is_below.ensures

pub returns-else-is_below : goal.returns-else-is_below
returns-else-is_below t c =
    let cut = cut_of_inner _ _ _ c.self.invariant c.self.view_is _ _ (omega arith) c.requires.level _ _ c.cut_of-cut.ensures in
    let above = test_at _ _ (is_above c.args.b.now) _ _ c.if-is_above.false c.is_above.ensures cut in
    let below = test_at _ _ (is_below c.args.b.now) _ _ c.if-is_below.false c.is_below.ensures cut in
    walk_stop _ _ _ _ (omega arith) above below
