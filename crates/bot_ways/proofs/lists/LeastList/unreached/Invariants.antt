use Rattle.std.proofs.Common.{◌≡◌, replicate, None}
use Rattle.bot_ways.proofs.lists.LeastList.unreached.Given as goal

abbrev pub invariant-loop : goal.invariant-loop
invariant-loop l = l.lengths.items ≡ replicate l.counter None
