use Rattle.std.proofs.Common.{ap}
use Rattle.areanode.specs.Trees.{TreeView, leaves_in, has_leaf}
use Rattle.areanode.proofs.Words.{word_of-below}
use Rattle.areanode.proofs.WaysDown.{areas_are_cut, root_level, leaves_are, region_start, region_step, region_end}
use Rattle.areanode.proofs.tree.Tree.leaves_of.Goals as goal

pub leaves_from-leaves-requires : goal.leaves_from-leaves-requires
leaves_from-leaves-requires c =
    let cut = areas_are_cut _ _ _ c.self.invariant c.self.view_is in
    record { depth = cut.is_depth; level = root_level c.args.self.now _ (ap (λ (t : TreeView). t.depth) c.self.view_is) }

pub loop-b-init : goal.loop-b-init
loop-b-init c = region_start (leaves_in c.args.self.now.depth) (λ leaf one. has_leaf c.args.self.now one leaf) c.boxes-b-items.result.now

pub loop-b-preserved : goal.loop-b-preserved
loop-b-preserved c =
    region_step (leaves_in c.args.self.now.depth) (λ leaf one. has_leaf c.args.self.now one leaf) c.boxes-b-items.result.now c.loop-b.b-index c.b-item.result _ _ c.loop-b-test.true c.b-item.is c.loop-b.invariant
    (leaves_are _ _ _ c.b-item.result _ c.self.invariant c.self.view_is c.leaves_from-leaves.ensures)

pub returns-clause-leaves : goal.returns-clause-leaves
returns-clause-leaves c =
    region_end c.args.self.now _ _ _ _ c.loop-b.invariant c.loop-b-test.false c.boxes-b-items.ensures.value

pub returns-clause-in_range : goal.returns-clause-in_range
returns-clause-in_range c =
    rw (c.loop-b.invariant) (word_of-below (leaves_in c.args.self.now.depth) _)
