use Rattle.std.proofs.Common.{arith}
use Rattle.world_tree.proofs.Marks.{marking-shortens, marking-in_range, marking-linked, marking-ends, counting-begins, counting-goes_on, counting-ends}
use Rattle.world_tree.proofs.walk.mark_counted.Goals as goal

pub loop-at-init : goal.loop-at-init
loop-at-init g c = counting-begins _ _ _ _ _ _ _ c.first-at.ensures.proper c.first-at.ensures.first

pub loop-at-preserved : goal.loop-at-preserved
loop-at-preserved g c =
    counting-goes_on _ _ _ _ _ _ _ _ _ _ _ _ _ _
    c.first-at.ensures.proper c.loop-at.invariant c.in-Some.is c.next-at.ensures.next c.from-place.ensures c.is_touched.ensures (omega arith)

pub loop-at-smaller : goal.loop-at-smaller
loop-at-smaller g c =
    omega (arith, marking-shortens _ _ _ _ _ _ _ _ _ c.first-at.ensures.proper c.loop-at.invariant.marking c.in-Some.is c.next-at.ensures.next)

pub bounds-marks-place : goal.bounds-marks-place
bounds-marks-place g c =
    omega (arith, marking-in_range _ _ _ _ _ _ _ _ c.first-at.ensures.proper c.loop-at.invariant.marking c.in-Some.is)

pub next-at-requires : goal.next-at-requires
next-at-requires g c = marking-linked _ _ _ _ _ _ _ _ c.loop-at.invariant.marking c.in-Some.is

pub returns-clause-marks : goal.returns-clause-marks
returns-clause-marks g c = marking-ends _ _ _ _ _ _ _ c.loop-at.invariant.marking c.in_default.is

pub returns-clause-looks : goal.returns-clause-looks
returns-clause-looks g c = counting-ends _ _ _ _ _ _ _ _ _ c.loop-at.invariant c.in_default.is
