use Rattle.std.proofs.Common.{length}
use Rattle.crew.proofs.rounds.+run_turn.Given as goal

abbrev pub decreases-run_turn : goal.decreases-run_turn
decreases-run_turn g l = length l.desks.now
