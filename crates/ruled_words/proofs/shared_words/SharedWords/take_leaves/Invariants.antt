use Rattle.std.proofs.Common.{◌≡◌, ◌≤◌, ◌+◌, false, length}
use Rattle.core_seats.specs.Refusals.{AreRefusals}
use Rattle.ruled_words.specs.GivingUp.{NoTakeWasRefused}
use Rattle.ruled_words.specs.Hands.{IsOwnHand}
use Rattle.ruled_words.specs.Passes.{fixed_in}
use Rattle.ruled_words.specs.Straight.{IsTriedOn}
use Rattle.ruled_words.proofs.TriedTakes.{leaf_list, left_until}
use Rattle.ruled_words.proofs.shared_words.SharedWords.take_leaves.Given as goal

abbrev pub invariant-loop-rest : goal.invariant-loop-rest
invariant-loop-rest g l =
    IsOwnHand g.A.Action.meaning l.self l.hand × (l.hand ≡ left_until (fixed_in g.A.Action.meaning l.self) l.fn.hand l.rest l.hand) × IsTriedOn l.fn.hand.tally l.hand.tally
    × (AreRefusals l.fn.refusals l.fn.hand.view → AreRefusals l.refusals l.hand.view) × (l.rest ≤ l.held.leaves) × (g.P.Patience.waits ≡ false → NoTakeWasRefused l.fn.hand l.hand)
    × (l.taken + length (leaf_list (fixed_in g.A.Action.meaning l.self) l.rest) ≡ length (leaf_list (fixed_in g.A.Action.meaning l.self) l.held.leaves))

abbrev pub decreases-loop-rest : goal.decreases-loop-rest
decreases-loop-rest g l = l.rest
