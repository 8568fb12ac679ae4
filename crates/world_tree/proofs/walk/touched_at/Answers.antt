use Rattle.std.proofs.Common.{◌≡◌, false, sym, ap, ◌∙◌, replicate, arith}
use Rattle.areanode.specs.Words.{has_bit}
use Rattle.entity_recs.specs.declared.limits.TheConstants.{IDS}
use Rattle.world_tree.specs.Walks.{marked, ids_at}
use Rattle.world_tree.proofs.Rounds.{passing, round-begins, round-takes, round-skips}
use Rattle.world_tree.proofs.walk.touched_at.Goals as goal
use Rattle.world_tree.proofs.walk.touched_at.Goals.{then-is_among, else-is_among}

pub loop-node-init : goal.loop-node-init
loop-node-init c = round-begins c.args.count c.args.lists.now c.args.boxes.now c.args.region.now (replicate IDS false) (has_bit c.args.nodes)

pub loop-node-preserved : goal.loop-node-preserved
loop-node-preserved c =
    elim c.if-is_among.branch [
      | then-is_among w ↦
          round-takes c.args.count c.args.lists.now c.args.boxes.now c.args.region.now (replicate IDS false) (has_bit c.args.nodes) c.loop-node.node c.loop-node.marks _ c.if-is_among.marks
          (sym c.is_among.ensures ∙ w.if-is_among.true) c.loop-node.invariant w.mark_list.ensures (w.marks-is ∙ w.mark_list-then-is_among.ensures)
      | else-is_among w ↦
          round-skips c.args.count c.args.lists.now c.args.boxes.now c.args.region.now (replicate IDS false) (has_bit c.args.nodes) c.loop-node.node c.if-is_among.marks
          (sym c.is_among.ensures ∙ w.if-is_among.false) (w.marks-is ∙ c.loop-node.invariant)
    ]

pub returns : goal.returns
returns c =
    let all : c.loop-node.node ≡ c.args.count = omega arith in
    c.loop-node.invariant ∙ ap (λ n. marked c.args.boxes.now c.args.region.now (ids_at c.args.count c.args.lists.now (passing (has_bit c.args.nodes) n)) (replicate IDS false)) all
