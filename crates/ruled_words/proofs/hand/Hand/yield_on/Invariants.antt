use Rattle.std.proofs.Common.{length, None}
use Rattle.ruled_words.specs.Starts.{fixed_by}
use Rattle.core_seats.specs.Nexts.{next_with, the_next}
use Rattle.ruled_words.proofs.hand.Hand.yield_on.Given as goal

-- the step that comes next of the seat's own view
abbrev pub ghosts-step_as : goal.ghosts-step_as
ghosts-step_as g a = record {
  fixed = fixed_by g.A.Action.meaning a.words.now.key.action.value a.words.now.key.world.value;
  passes = length a.words.now.key.rooms.items;
  given = None;
  quits = a.about.now;
  next = the_next (next_with (fixed_by g.A.Action.meaning a.words.now.key.action.value a.words.now.key.world.value) a.seat.now.me.0.view None a.about.now None);
}
