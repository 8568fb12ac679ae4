-- What each line changes of a map.
use Rattle.std.proofs.Common.{refl}
use Rattle.arena_map.specs.declared.map_line.MapLine.{MapLine}
use Rattle.arena_map.specs.declared.map_line.MapLine.TheVariants.{Arena, Block, Spawn, Item, Teleport, Goal, Lift, Depth, Shots, Blocks}
use Rattle.arena_map.specs.Maps.{MapView}
use Rattle.arena_map.specs.Rules.{with_line}
use Rattle.arena_map.specs.LineParts.{IsWithLine, LinesChangeTheirParts}

changes : (map : MapView) (line : MapLine) → IsWithLine map line (with_line map line)
changes map (Arena lo hi) = refl
changes map (Block lo hi) = refl
changes map (Spawn at) = refl
changes map (Item at kind delay) = refl
changes map (Teleport lo hi dest) = refl
changes map (Goal lo hi) = refl
changes map (Lift lo hi rise speed) = refl
changes map (Depth depth) = refl
changes map Shots = refl
changes map (Blocks most) = refl

pub lines_change_their_parts : LinesChangeTheirParts
lines_change_their_parts =
    record { begun = λ lo hi. refl; added = changes; solids = λ map. refl }
