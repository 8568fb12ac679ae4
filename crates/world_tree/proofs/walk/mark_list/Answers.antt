use Rattle.std.proofs.Common.{arith}
use Rattle.world_tree.proofs.Marks.{marking-begins, marking-goes_on, marking-shortens, marking-in_range, marking-linked, marking-ends}
use Rattle.world_tree.proofs.walk.mark_list.Goals as goal

pub loop-at-init : goal.loop-at-init
loop-at-init c = marking-begins _ _ _ _ _ _ c.first-at.ensures.proper c.first-at.ensures.first

pub loop-at-preserved : goal.loop-at-preserved
loop-at-preserved c =
    marking-goes_on _ _ _ _ _ _ _ _ _ _ _ c.first-at.ensures.proper c.loop-at.invariant c.in-Some.is c.next-at.ensures.next c.from-place.ensures c.is_touched.ensures

pub loop-at-smaller : goal.loop-at-smaller
loop-at-smaller c =
    omega (arith, marking-shortens _ _ _ _ _ _ _ _ _ c.first-at.ensures.proper c.loop-at.invariant c.in-Some.is c.next-at.ensures.next)

pub bounds-marks-place : goal.bounds-marks-place
bounds-marks-place c =
    omega (arith, marking-in_range _ _ _ _ _ _ _ _ c.first-at.ensures.proper c.loop-at.invariant c.in-Some.is)

pub next-at-requires : goal.next-at-requires
next-at-requires c = marking-linked _ _ _ _ _ _ _ _ c.loop-at.invariant c.in-Some.is

pub returns : goal.returns
returns c = marking-ends _ _ _ _ _ _ _ c.loop-at.invariant c.in_default.is
