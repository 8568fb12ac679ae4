use Rattle.std.specs.List.{IsDistinct}
use Rattle.reply_fan.proofs.tests.arena.Goals as goal

pub new-requires-2-clause-apart : goal.new-requires-2-clause-apart
unfolding IsDistinct
new-requires-2-clause-apart c = tt
