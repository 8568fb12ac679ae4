use Rattle.std.proofs.Common.{All}
use Rattle.crew.specs.Plays.{IsRested}
use Rattle.crew.proofs.rounds.stop_all.Given as goal

abbrev pub invariant-loop-desk : goal.invariant-loop-desk
invariant-loop-desk g l = All (λ d. IsRested d.seat.me) l.desks.items

abbrev pub decreases-loop-desk : goal.decreases-loop-desk
decreases-loop-desk g l = l.desks.len
