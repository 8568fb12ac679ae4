use Rattle.std.proofs.Common.{◌≡◌}
use Rattle.demo_make.proofs.Lines.{text_before}
use Rattle.demo_make.proofs.text.push_map.Given as goal

-- the text has the lines so far
abbrev pub invariant-loop-index : goal.invariant-loop-index
invariant-loop-index l = l.text ≡ text_before l.index
