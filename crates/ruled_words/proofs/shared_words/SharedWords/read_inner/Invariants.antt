use Rattle.std.proofs.Common.{◌≡◌, ◌≤◌, ℕ, false, bit_or}
use Rattle.core_seats.specs.Refusals.{AreRefusals}
use Rattle.ruled_words.specs.GivingUp.{NoTakeWasRefused}
use Rattle.ruled_words.specs.Hands.{IsOwnHand}
use Rattle.ruled_words.specs.Passes.{fixed_in}
use Rattle.ruled_words.specs.Straight.{HasKept, IsTriedOn}
use Rattle.ruled_words.proofs.VisitedNodes.{inner_until}
use Rattle.ruled_words.proofs.shared_words.SharedWords.read_inner.Given as goal

abbrev pub invariant-loop-rest : goal.invariant-loop-rest
invariant-loop-rest g l =
    IsOwnHand g.A.Action.meaning l.self l.hand × (l.hand ≡ inner_until (fixed_in g.A.Action.meaning l.self) l.fn.hand l.rest l.hand)
    × ((seen : ℕ) → HasKept seen l.fn.by_slot l.fn.hand.view.others → HasKept (bit_or seen l.seen) l.by_slot l.hand.view.others) × (l.rest ≤ l.held.inner)
    × IsTriedOn l.fn.hand.tally l.hand.tally × (AreRefusals l.fn.refusals l.fn.hand.view → AreRefusals l.refusals l.hand.view)
    × (g.P.Patience.waits ≡ false → NoTakeWasRefused l.fn.hand l.hand)

abbrev pub decreases-loop-rest : goal.decreases-loop-rest
decreases-loop-rest g l = l.rest
