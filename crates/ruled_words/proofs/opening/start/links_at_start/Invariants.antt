use Rattle.ruled_words.proofs.StartLinks.{AreLinks}
use Rattle.ruled_words.proofs.opening.start.links_at_start.Given as goal

abbrev pub invariant-loop-slot : goal.invariant-loop-slot
invariant-loop-slot l = AreLinks l.world l.slot l.links
