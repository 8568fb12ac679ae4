use Rattle.std.proofs.Common.{length}
use Rattle.std.specs.Option.{option_map}
use Rattle.entity_recs.specs.Commands.{command_of}
use Rattle.core_seats.specs.Nexts.{next_with, the_next}
use Rattle.ruled_words.specs.Starts.{fixed_by}
use Rattle.ruled_words.proofs.hand.Hand.step_beside.Given as goal

-- the step that comes next of the pass
abbrev pub ghosts-step_as : goal.ghosts-step_as
ghosts-step_as g a = record {
  fixed = fixed_by g.A.Action.meaning a.words.now.key.action.value a.words.now.key.world.value;
  passes = length a.words.now.key.rooms.items;
  given = option_map command_of a.about.now.0.now;
  quits = a.about.now.1;
  next = the_next (next_with (fixed_by g.A.Action.meaning a.words.now.key.action.value a.words.now.key.world.value) a.seat.now.me.0.view (option_map command_of a.about.now.0.now) a.about.now.1 a.about.now.2.now);
}
