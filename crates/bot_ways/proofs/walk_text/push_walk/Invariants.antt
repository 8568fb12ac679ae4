use Rattle.bot_ways.proofs.WalkSteps.{WalksOn}
use Rattle.bot_ways.proofs.walk_text.push_walk.Given as goal

abbrev pub invariant-loop-index : goal.invariant-loop-index
invariant-loop-index l = WalksOn l.map l.way l.index l.seq l.length l.text l.initial.text
