use Rattle.std.proofs.Common.{◌≡◌, ◌+◌, length}
use Rattle.crew.proofs.rounds.Crew.new.Given as goal

abbrev pub invariant-loop-spare : goal.invariant-loop-spare
invariant-loop-spare g l = (length l.helpers.items + length l.spare-iterator.rest.items ≡ length l.fn.spares.items) × (l.crew ≡ length l.helpers.items)
