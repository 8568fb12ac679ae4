use Rattle.std.proofs.Common.{◌≡◌, false, length}
use Rattle.std.specs.Iterator.{IsFinite, size}
use Rattle.core_seats.specs.Refusals.{AreRefusals}
use Rattle.ruled_words.specs.Passes.{fixed_in}
use Rattle.ruled_words.proofs.Claims.{Tries}
use Rattle.ruled_words.proofs.shared_words.SharedWords.take_first.Given as goal

abbrev pub invariant-loop-tries : goal.invariant-loop-tries
invariant-loop-tries g l =
    Tries (fixed_in g.A.Action.meaning l.self) (length l.self.rooms) l.self.table l.fn.hand l.fn.hand.view l.hand × (AreRefusals l.fn.refusals l.fn.hand.view → AreRefusals l.refusals l.hand.view)
    × (g.P.Patience.waits ≡ false → l.hand ≡ l.fn.hand)
    × g.P.Tries.Iterator.can_next l.tries × IsFinite (g.P.Tries.Iterator.remaining l.tries)

abbrev pub decreases-loop-tries : goal.decreases-loop-tries
decreases-loop-tries g l = size (g.P.Tries.Iterator.remaining l.tries)
