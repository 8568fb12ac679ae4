use Rattle.std.proofs.Common.{◌≡◌, ◌-◌, ◌++◌}
use Rattle.bot_ways.proofs.Gathering.{moves_text}
use Rattle.bot_ways.proofs.walk_text.push_frames.Given as goal

-- the text has the frames of the moves so far
abbrev pub invariant-loop-number : goal.invariant-loop-number
invariant-loop-number l = l.text ≡ l.initial.text ++ moves_text l.from l.to l.seq (l.number - l.seq)
