use Rattle.std.proofs.Common.{◌≡◌, length}
use Rattle.ruled_words.specs.Hands.{IsOwnHand}
use Rattle.ruled_words.specs.Passes.{fixed_in}
use Rattle.ruled_words.specs.Visits.{under_until}
use Rattle.ruled_words.proofs.BitWalks.{bits_in}
use Rattle.ruled_words.proofs.Visited.{AreKept}
use Rattle.ruled_words.proofs.shared_words.SharedWords.read_under.Given as goal

abbrev pub invariant-loop-rest : goal.invariant-loop-rest
invariant-loop-rest g l =
    IsOwnHand g.A.Action.meaning l.self l.hand × (l.hand ≡ under_until (fixed_in g.A.Action.meaning l.self) l.fn.hand l.node (bits_in 64 l.rest) l.hand)
    × AreKept l.players l.rest l.fn.by_slot l.by_slot l.fn.hand.view.others l.hand.view.others × (length l.by_slot ≡ 64)

abbrev pub decreases-loop-rest : goal.decreases-loop-rest
decreases-loop-rest g l = l.rest
