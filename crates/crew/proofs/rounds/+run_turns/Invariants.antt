use Rattle.std.proofs.Common.{length}
use Rattle.crew.proofs.rounds.+run_turns.Given as goal

abbrev pub decreases-run_turns : goal.decreases-run_turns
decreases-run_turns g l = length l.items.now
