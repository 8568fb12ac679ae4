use Rattle.std.proofs.Common.{◌≡◌, ◌++◌, take}
use Rattle.bot_ways.specs.PlanTexts.{lines_text}
use Rattle.bot_ways.proofs.map_text.push_things.Given as goal

-- the text has the lines of the things so far
abbrev pub invariant-loop-place : goal.invariant-loop-place
invariant-loop-place l = l.text ≡ l.initial.text ++ lines_text (take l.place l.map.things)
