use Rattle.std.proofs.Common.{◌≡◌, ◌++◌, take}
use Rattle.arena_map.specs.declared.map_line.MapLine.TheVariants.{Spawn}
use Rattle.bot_ways.proofs.Gathering.{lines_with}
use Rattle.bot_ways.proofs.map_text.push_spawns.Given as goal

-- the text has the lines of the spawns so far
abbrev pub invariant-loop-at : goal.invariant-loop-at
invariant-loop-at l = l.text ≡ l.initial.text ++ lines_with Spawn (take l.at-index l.map.spawns)
