-- That the rules of a map have one proof at most, so that a type can keep them.
use Rattle.std.proofs.Props.{props}
use Rattle.arena_map.specs.declared.map_line.MapLine.{MapLine}
use Rattle.arena_map.specs.declared.map_line.MapLine.TheVariants.{Arena, Depth, Shots, Blocks, Block, Spawn, Item, Teleport, Goal, Lift}
use Rattle.arena_map.specs.MapLines.{IsWithinLimits}
use Rattle.arena_map.specs.Maps.{MapView, IsMap}

pub IsWithinLimits-prop : (line : MapLine) → IsProp (IsWithinLimits line)
IsWithinLimits-prop (Arena lo hi) = hlevel props
IsWithinLimits-prop (Depth depth) = hlevel props
IsWithinLimits-prop Shots = hlevel props
IsWithinLimits-prop (Blocks most) = hlevel props
IsWithinLimits-prop (Block lo hi) = hlevel props
IsWithinLimits-prop (Spawn at) = hlevel props
IsWithinLimits-prop (Item at kind delay) = hlevel props
IsWithinLimits-prop (Teleport lo hi dest) = hlevel props
IsWithinLimits-prop (Goal lo hi) = hlevel props
IsWithinLimits-prop (Lift lo hi rise speed) = hlevel props

pub IsMap-prop : (map : MapView) → IsProp (IsMap map)
IsMap-prop map = hlevel (props, IsWithinLimits-prop)
