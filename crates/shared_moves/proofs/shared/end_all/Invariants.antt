use Rattle.std.specs.Vec.Iter.{into_iter_items}
use Rattle.ruled_words.specs.Passes.{sight_of}
use Rattle.shared_moves.proofs.EndedPasses.{IsEndedBut}
use Rattle.shared_moves.proofs.shared.end_all.Given as goal

abbrev pub invariant-loop-pass : goal.invariant-loop-pass
invariant-loop-pass g l =
    (goal.iterator-loop-pass g).can_next l.pass-iterator × (goal.iterator-loop-pass g).is_finite l.pass-iterator
    × IsEndedBut l.fn.words.table l.fn.passes.items (into_iter_items l.pass-iterator) l.first.table (sight_of l.first) l.logs
