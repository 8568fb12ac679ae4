use Rattle.std.proofs.Common.{refl, ap, ◌∙◌}
use Rattle.world_tree.specs.Worlds.{WorldView}
use Rattle.world_tree.proofs.Starts.{adding-begins, adding-goes_on, find-before, all-made, all-found, tree-made}
use Rattle.world_tree.proofs.world.World.new.Goals as goal

pub loop-r-init : goal.loop-r-init
loop-r-init c =
    let w = c.in_ok-world.world in
    let made = c.in_ok-world.ensures.made in
    adding-begins c.args.bounds.now c.args.depth c.args.start.now w.tree w.records w.lists c.requires.depth (ap (λ (v : WorldView). v.tree) made) (ap (λ (v : WorldView). v.records) made) (ap (λ (v : WorldView). v.lists) made)

pub loop-r-preserved : goal.loop-r-preserved
loop-r-preserved c =
    adding-goes_on c.args.bounds.now c.args.depth c.args.start.now c.loop-r.r-index c.loop-r.world c.add.new.self _ _ c.loop-r-test.true refl
    (c.requires.records c.loop-r.r-index _ c.loop-r-test.true) c.loop-r.invariant
    (c.loop-r.invariant.records _ ∙ find-before c.args.start.now c.loop-r.r-index _ c.requires.apart c.loop-r-test.true) c.add.ensures.world c.add.ensures.linked

pub add-requires : goal.add-requires
add-requires c = record {
  «record» = c.requires.records c.loop-r.r-index _ c.loop-r-test.true;
  not_live = c.loop-r.invariant.records _ ∙ find-before c.args.start.now c.loop-r.r-index _ c.requires.apart c.loop-r-test.true;
}

pub returns-clause-made : goal.returns-clause-made
returns-clause-made c = all-made _ _ _ _ _ c.loop-r-test.false c.loop-r.invariant

pub returns-clause-records : goal.returns-clause-records
returns-clause-records c = all-found _ _ _ _ _ c.loop-r-test.false c.loop-r.invariant

pub returns-clause-linked : goal.returns-clause-linked
returns-clause-linked c = c.loop-r.invariant.linked

pub returns-clause-tree : goal.returns-clause-tree
returns-clause-tree c = tree-made _ _ _ _ _ c.loop-r.invariant
