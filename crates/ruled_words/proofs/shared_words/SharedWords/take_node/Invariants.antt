use Rattle.std.proofs.Common.{◌≡◌, false}
use Rattle.std.specs.Iterator.{IsFinite, size}
use Rattle.core_seats.specs.Refusals.{AreRefusals}
use Rattle.ruled_words.specs.Hands.{IsOwnHand}
use Rattle.ruled_words.specs.Straight.{IsTriedOn}
use Rattle.ruled_words.specs.Tries.{tried_until}
use Rattle.ruled_words.proofs.shared_words.SharedWords.take_node.Given as goal

abbrev pub invariant-loop-tries : goal.invariant-loop-tries
invariant-loop-tries g l =
    IsOwnHand g.A.Action.meaning l.self l.hand × (l.hand ≡ tried_until l.fn.hand l.fn.hand.view.point l.hand) × IsTriedOn l.fn.hand.tally l.hand.tally
    × (AreRefusals l.fn.refusals l.fn.hand.view → AreRefusals l.refusals l.hand.view) × (g.P.Patience.waits ≡ false → l.hand ≡ l.fn.hand)
    × g.P.Tries.Iterator.can_next l.tries × IsFinite (g.P.Tries.Iterator.remaining l.tries)

abbrev pub decreases-loop-tries : goal.decreases-loop-tries
decreases-loop-tries g l = size (g.P.Tries.Iterator.remaining l.tries)
