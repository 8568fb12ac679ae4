use Rattle.std.proofs.Common.{◌≡◌, false, length, take, drop}
use Rattle.core_seats.specs.Refusals.{AreRefusals}
use Rattle.ruled_words.specs.GivingUp.{NoTakeWasRefused}
use Rattle.ruled_words.specs.Passes.{fixed_in}
use Rattle.ruled_words.proofs.Claims.{Tries, claiming_view}
use Rattle.ruled_words.proofs.shared_words.SharedWords.take_write_nodes.Given as goal

abbrev pub invariant-loop-i : goal.invariant-loop-i
invariant-loop-i g l =
    Tries (fixed_in g.A.Action.meaning l.self) (length l.self.rooms) l.self.table l.fn.hand (claiming_view l.fn.hand.view l.effect (take l.i l.nodes) (drop l.i l.nodes)) l.hand
    × (AreRefusals l.fn.refusals l.fn.hand.view → AreRefusals l.refusals l.hand.view)
    × (g.P.Patience.waits ≡ false → NoTakeWasRefused l.fn.hand l.hand)
