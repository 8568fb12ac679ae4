use Rattle.std.proofs.Common.{◌≡◌, ◌++◌, length, drop}
use Rattle.std.specs.Vec.Iter.{into_iter_items}
use Rattle.region_locks.specs.PassLists.{AreNew}
use Rattle.region_locks.proofs.table.make_passes.Given as goal

abbrev pub invariant-loop-hand : goal.invariant-loop-hand
invariant-loop-hand g l =
    (goal.iterator-loop-hand g).can_next l.hand-iterator × (goal.iterator-loop-hand g).is_finite l.hand-iterator
    × (l.passes.items ++ into_iter_items l.hand-iterator ≡ l.fn.hands.items)
    × AreNew l.records l.made (drop (length l.passes.items) l.room) (into_iter_items l.hand-iterator)
