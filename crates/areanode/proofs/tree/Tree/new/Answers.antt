use Rattle.std.proofs.Common.{◌<◌, ◌+◌, ◌*◌, length, length-set, refl, sym, ◌∙◌, arith}
use Rattle.areanode.specs.Cuts.{part_above, part_below}
use Rattle.areanode.specs.Depths.{sizes_of_depth}
use Rattle.areanode.proofs.Shifts.{leaves_shifted, children_fit}
use Rattle.areanode.proofs.WaysDown.{all_bounds, root_stays, parts_more, part_at, beyond_stays}
use Rattle.areanode.proofs.tree.Tree.new.Goals as goal

pub loop-node-init : goal.loop-node-init
loop-node-init c = record {
  number = refl;
  root = refl;
  parts = λ node below. absurd (omega arith);
  beyond = λ node past below. all_bounds c.args.bounds.now node below;
}

pub listed : goal.listed
listed c = omega (arith, c.loop-node.invariant.number, children_fit c.args.depth _ c.requires c.loop-node-test.true)

pub bounds-areas-node : goal.bounds-areas-node
bounds-areas-node c = omega (arith, children_fit c.args.depth _ c.requires c.loop-node-test.true)

pub listed-in-loop-node : goal.listed-in-loop-node
listed-in-loop-node c =
    omega (arith, c.loop-node.invariant.number, children_fit c.args.depth _ c.requires c.loop-node-test.true)

pub bounds-areas-node-in-loop-node : goal.bounds-areas-node-in-loop-node
bounds-areas-node-in-loop-node c = omega (arith, children_fit c.args.depth _ c.requires c.loop-node-test.true)

pub listed-in-loop-node-2 : goal.listed-in-loop-node-2
listed-in-loop-node-2 c =
    omega (arith, c.loop-node.invariant.number, length-set c.loop-node.areas (2 * c.loop-node.node + 1) c.part_above.result, children_fit c.args.depth _ c.requires c.loop-node-test.true)

pub bounds-areas-node-in-loop-node-2 : goal.bounds-areas-node-in-loop-node-2
bounds-areas-node-in-loop-node-2 c = children_fit c.args.depth _ c.requires c.loop-node-test.true

pub loop-node-preserved : goal.loop-node-preserved
loop-node-preserved c =
    let number = c.loop-node.invariant.number in
    let fits : 2 * c.loop-node.node + 2 < length c.loop-node.areas = omega (arith, number, children_fit c.args.depth _ c.requires c.loop-node-test.true) in
    let within : c.loop-node.node < length c.loop-node.areas = omega (arith, fits) in
    let above = part_at part_above _ _ _ _ within c.part_above.ensures in
    let below = part_at part_below _ _ _ _ within c.part_below.ensures in
    record {
      number = length-set _ _ _ ∙ length-set _ _ _ ∙ number;
      root = root_stays c.loop-node.areas c.loop-node.node c.part_above.result c.part_below.result _ c.loop-node.invariant.root;
      parts = parts_more c.loop-node.areas c.loop-node.node c.part_above.result c.part_below.result fits c.loop-node.invariant.parts above below;
      beyond = beyond_stays c.loop-node.areas c.loop-node.node c.part_above.result c.part_below.result _ c.loop-node.invariant.beyond;
    }

pub invariant_of-result : goal.invariant_of-result
invariant_of-result c =
    let sizes = sizes_of_depth c.args.depth c.requires in
    let first = leaves_shifted c.args.depth c.requires in
    record {
      is_depth = c.requires;
      number = c.loop-node.invariant.number;
      parts = λ node inner. c.loop-node.invariant.parts node (omega (arith, inner, c.loop-node-test.false, first));
      beyond = λ node past below. c.loop-node.invariant.beyond node (omega (arith, past, sizes.double, sizes.some, c.loop-node-test.false, first, c.loop-node.auto.node-end)) below ∙ sym c.loop-node.invariant.root;
    }
