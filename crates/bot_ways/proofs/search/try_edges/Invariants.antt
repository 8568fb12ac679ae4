use Rattle.bot_ways.proofs.Searching.{AreTriedBelow}
use Rattle.bot_ways.proofs.search.try_edges.Given as goal

abbrev pub invariant-loop-to : goal.invariant-loop-to
invariant-loop-to l = AreTriedBelow l.map l.from l.to l.initial.least l.least
