use Rattle.std.proofs.Common.{length, None, false}
use Rattle.core_steps.specs.Machine.{YieldCount}
use Rattle.ruled_words.specs.Starts.{fixed_by}
use Rattle.ruled_words.proofs.steps.seats.look.Given as goal

abbrev pub ghosts-look_as : goal.ghosts-look_as
ghosts-look_as g a = record {
  fixed = fixed_by g.A.Action.meaning a.words.now.key.action.value a.words.now.key.world.value;
  passes = length a.words.now.key.rooms.items;
  given = None;
  quits = false;
  next = YieldCount;
}
