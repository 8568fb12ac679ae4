use Rattle.std.proofs.Common.{◌≡◌}
use Rattle.demo_make.proofs.Building.{map_after}
use Rattle.demo_make.proofs.arena.generated_map.Given as goal

-- the map has the lines so far
abbrev pub invariant-loop-index : goal.invariant-loop-index
invariant-loop-index l = l.map ≡ map_after l.index
