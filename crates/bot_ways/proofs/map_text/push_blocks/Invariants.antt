use Rattle.std.proofs.Common.{◌≡◌, ◌++◌, take}
use Rattle.bot_ways.specs.PlanTexts.{block_of}
use Rattle.bot_ways.proofs.Gathering.{lines_with}
use Rattle.bot_ways.proofs.map_text.push_blocks.Given as goal

-- the text has the lines of the blocks so far
abbrev pub invariant-loop-block : goal.invariant-loop-block
invariant-loop-block l = l.text ≡ l.initial.text ++ lines_with block_of (take l.block-index l.map.blocks)
