use Rattle.std.proofs.Common.{◌≡◌, ◌-◌, ◌∙◌, ap, arith}
use Rattle.areanode.specs.Words.{word_of}
use Rattle.areanode.specs.Trees.{leaves_in, nodes_in}
use Rattle.areanode.specs.Depths.{sizes_of_depth}
use Rattle.areanode.proofs.Shifts.{leaves_shifted}
use Rattle.areanode.proofs.WaysUp.{is_over_some, visited_start, path_is, visited_more, visited_same, tested, not_tested}
use Rattle.areanode.proofs.ancestors.visited_nodes.Goals as goal
use Rattle.areanode.proofs.ancestors.visited_nodes.Goals.{then-leaves-leaf-eq1, else-leaves-leaf-eq1}

pub loop-leaf-init : goal.loop-leaf-init
loop-leaf-init c = visited_start _ _

pub overflow_shr-leaves : goal.overflow_shr-leaves
overflow_shr-leaves c =
    omega (arith, c.loop-leaf-test.true, leaves_shifted c.args.depth c.requires, (sizes_of_depth c.args.depth c.requires).leaves)

pub loop-leaf-preserved : goal.loop-leaf-preserved
loop-leaf-preserved c =
    let first = ap (λ n. n - 1) (leaves_shifted c.args.depth c.requires) in
    elim c.if-leaves-leaf-eq1.branch [
      | then-leaves-leaf-eq1 w ↦
          let path = path_is c.args.depth _ c.loop-leaf.leaf _ first w.path_to-nodes.ensures in
          rw w.nodes-is (visited_more c.args.depth c.args.leaves c.loop-leaf.leaf c.loop-leaf.nodes _ (tested _ _ w.if-leaves-leaf-eq1.true) c.loop-leaf.invariant path)
      | else-leaves-leaf-eq1 w ↦
          rw w.nodes-is (visited_same c.args.depth c.args.leaves c.loop-leaf.leaf c.loop-leaf.nodes (not_tested _ _ w.if-leaves-leaf-eq1.false) c.loop-leaf.invariant)
    ]

pub returns : goal.returns
returns c =
    let all : c.loop-leaf.leaf ≡ leaves_in c.args.depth =
    omega (arith, c.loop-leaf-test.false, c.loop-leaf.auto.leaf-end, leaves_shifted c.args.depth c.requires) in
    c.loop-leaf.invariant ∙ ap (λ n. word_of (nodes_in c.args.depth) (is_over_some c.args.depth c.args.leaves n)) all
