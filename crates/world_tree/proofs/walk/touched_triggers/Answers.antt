use Rattle.std.proofs.Common.{◌≡◌, ◌+◌, false, sym, ap, ◌∙◌, replicate, arith}
use Rattle.areanode.specs.Words.{has_bit}
use Rattle.entity_recs.specs.declared.limits.TheConstants.{IDS}
use Rattle.world_tree.specs.Walks.{marked, triggers_at}
use Rattle.world_tree.proofs.Rounds.{passing, looks_at, counted_round-begins, counted_round-takes, counted_round-skips}
use Rattle.world_tree.proofs.walk.touched_triggers.Goals as goal
use Rattle.world_tree.proofs.walk.touched_triggers.Goals.{then-is_among, else-is_among}

pub loop-node-init : goal.loop-node-init
loop-node-init g c = counted_round-begins c.args.count c.args.lists.now c.args.boxes.now c.args.region.now (replicate IDS false) c.args.steps.now (has_bit c.args.nodes)

pub loop-node-preserved : goal.loop-node-preserved
loop-node-preserved g c =
    elim c.if-is_among.branch [
      | then-is_among w ↦
          counted_round-takes c.args.count c.args.lists.now c.args.boxes.now c.args.region.now (replicate IDS false) c.args.steps.now (has_bit c.args.nodes) c.loop-node.node c.loop-node.marks c.if-is_among.marks c.loop-node.steps c.if-is_among.steps
          (sym c.is_among.ensures ∙ w.if-is_among.true) c.loop-node.invariant (w.marks-is ∙ w.mark_counted.ensures.marks) (omega (arith, w.mark_counted.ensures.looks))
      | else-is_among w ↦
          counted_round-skips c.args.count c.args.lists.now c.args.boxes.now c.args.region.now (replicate IDS false) c.args.steps.now (has_bit c.args.nodes) c.loop-node.node c.loop-node.marks c.if-is_among.marks c.loop-node.steps c.if-is_among.steps
          (sym c.is_among.ensures ∙ w.if-is_among.false) c.loop-node.invariant w.marks-is w.steps-is
    ]

pub returns-clause-marks : goal.returns-clause-marks
returns-clause-marks g c =
    let all : c.loop-node.node ≡ c.args.count = omega arith in
    c.loop-node.invariant.marking ∙ ap (λ n. marked c.args.boxes.now c.args.region.now (triggers_at c.args.count c.args.lists.now (passing (has_bit c.args.nodes) n)) (replicate IDS false)) all

pub returns-clause-looks : goal.returns-clause-looks
returns-clause-looks g c =
    let all : c.loop-node.node ≡ c.args.count = omega arith in
    c.loop-node.invariant.counted ∙ ap (λ n. c.args.steps.now + looks_at c.args.count c.args.lists.now (passing (has_bit c.args.nodes) n)) all
