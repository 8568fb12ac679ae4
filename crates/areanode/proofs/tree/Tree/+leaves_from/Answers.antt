use Rattle.std.proofs.Common.{◌≡◌, ◌+◌, ◌-◌, ◌*◌, ◌&&◌, ◌∙◌, arith}
use Rattle.areanode.specs.Words.{word_of}
use Rattle.areanode.specs.Cuts.{cut_of, reaches_above, reaches_below}
use Rattle.areanode.specs.Trees.{leaves_in, inner_in, reaches}
use Rattle.areanode.specs.Areas.{area_at, areas_of}
use Rattle.areanode.proofs.WaysDown.{level_above, level_below, node_fits, parts_of_inner, cut_of_inner, test_at, leaf_fits, leaves_end, leaves_step, passed, not_passed}
use Rattle.areanode.proofs.tree.Tree.+leaves_from.Goals as goal
use Rattle.areanode.proofs.tree.Tree.+leaves_from.Goals.{then-reaches_above, else-reaches_above, then-reaches_below, else-reaches_below}

pub returns-then-levels-eq0 : goal.returns-then-levels-eq0
returns-then-levels-eq0 t c =
    leaves_end _ _ _ _ _ _ c.requires.depth c.if-levels-eq0.true c.requires.level (c.from.ensures ∙ c.first_leaf.ensures.value)

pub overflow_shl-result : goal.overflow_shl-result
overflow_shl-result t c =
    leaf_fits _ _ _ _ c.requires.depth c.if-levels-eq0.true c.requires.level (c.from.ensures ∙ c.first_leaf.ensures.value)

pub offset_bounds-self-inside-node : goal.offset_bounds-self-inside-node
offset_bounds-self-inside-node t c =
    omega (arith, node_fits _ _ _ c.requires.depth (omega arith) c.requires.level)

pub bounds-self-inside-node : goal.bounds-self-inside-node
bounds-self-inside-node t c = node_fits _ _ _ c.requires.depth (omega arith) c.requires.level

pub listed : goal.listed
listed t c =
    omega (arith, c.self.told, node_fits _ _ _ c.requires.depth (omega arith) c.requires.level)

pub leaves_from-above-requires : goal.leaves_from-above-requires
leaves_from-above-requires t c = (omega arith, (c.requires.depth, level_above _ _ _ (omega arith) c.requires.level))

pub leaves_from-below-requires : goal.leaves_from-below-requires
leaves_from-below-requires t c = (omega arith, (c.requires.depth, level_below _ _ _ (omega arith) c.requires.level))

pub returns : goal.returns
returns t c =
    let tree = c.args.self.now in
    let areas = areas_of tree in
    let node = c.args.node in
    let b = c.args.b.now in
    let leaves = leaves_in tree.depth in
    let parts = parts_of_inner _ _ _ c.self.invariant c.self.view_is _ _ (omega arith) c.requires.level in
    let cut = cut_of_inner _ _ _ c.self.invariant c.self.view_is _ _ (omega arith) c.requires.level _ _ c.cut_of-cut.ensures in
    let up : c.if-reaches_above.above ≡ word_of leaves (λ leaf. reaches_above b (cut_of (area_at areas node)) && reaches (c.args.levels - 1) (2 * node + 1) (area_at areas (2 * node + 1)) b (inner_in tree.depth + leaf)) =
    elim c.if-reaches_above.branch [
      | then-reaches_above w ↦ passed _ leaves _ _ _ (test_at _ _ (reaches_above b) _ _ w.if-reaches_above.true c.reaches_above.ensures cut) w.above-is w.leaves_from-above.ensures
      | else-reaches_above w ↦ not_passed _ leaves _ _ (test_at _ _ (reaches_above b) _ _ w.if-reaches_above.false c.reaches_above.ensures cut) w.above-is
    ] in
    let down : c.if-reaches_below.below ≡ word_of leaves (λ leaf. reaches_below b (cut_of (area_at areas node)) && reaches (c.args.levels - 1) (2 * node + 2) (area_at areas (2 * node + 2)) b (inner_in tree.depth + leaf)) =
    elim c.if-reaches_below.branch [
      | then-reaches_below w ↦ passed _ leaves _ _ _ (test_at _ _ (reaches_below b) _ _ w.if-reaches_below.true c.reaches_below.ensures cut) w.below-is w.leaves_from-below.ensures
      | else-reaches_below w ↦ not_passed _ leaves _ _ (test_at _ _ (reaches_below b) _ _ w.if-reaches_below.false c.reaches_below.ensures cut) w.below-is
    ] in
    leaves_step leaves (inner_in tree.depth) _ _ areas b _ _ (omega arith) parts up down
