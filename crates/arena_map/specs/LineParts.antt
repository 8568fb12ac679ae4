-- What each line changes of a map: one part of it, and nothing else.
use Rattle.std.specs.Prelude.{◌≡◌, ◌+◌, true, false, [], ◌∷◌, ◌++◌, length}
use Rattle.arena_geo.specs.declared.vec3.Vec3.{Vec3}
use Rattle.arena_geo.specs.Bounds.{bounds}
use Rattle.box_trace.specs.Walls.{walls_of}
use Rattle.arena_map.specs.declared.map_line.MapLine.{MapLine}
use Rattle.arena_map.specs.declared.map_line.MapLine.TheVariants.{Arena, Block, Spawn, Depth, Shots, Blocks}
use Rattle.arena_map.specs.Maps.{MapView, solids_of}
use Rattle.arena_map.specs.Rules.{bare_map, with_line}

-- the map between these corners has no block, spawn and thing, and room for 1,024 blocks; its tree is 4 deep, and players
-- can't shoot
abbrev pub IsBareMap : Vec3 → Vec3 → MapView → Type 0
IsBareMap lo hi map =
    map
    ≡ record {
      bounds = bounds lo hi;
      blocks = [];
      spawns = [];
      things = [];
      depth = 4;
      depth_lines = 0;
      shots = false;
      shots_lines = 0;
      most_blocks = 1024;
      limit_lines = 0;
      early_blocks = 0;
    }

-- a block, a spawn or a thing comes after those that the map had; a depth is the map's from there on, and so are that
-- players can shoot and how many blocks there may be, before which are the blocks that the map had; nothing else changes,
-- and the line of an arena changes nothing
abbrev pub IsWithLine : MapView → MapLine → MapView → Type 0
IsWithLine old (Arena lo hi) new = new ≡ old
IsWithLine old (Block lo hi) new = new ≡ record old { blocks = old.blocks ++ bounds lo hi ∷ [] }
IsWithLine old (Spawn at) new = new ≡ record old { spawns = old.spawns ++ at ∷ [] }
IsWithLine old (Depth depth) new = new ≡ record old { depth = depth; depth_lines = old.depth_lines + 1 }
IsWithLine old Shots new = new ≡ record old { shots = true; shots_lines = old.shots_lines + 1 }
IsWithLine old (Blocks most) new =
    new
    ≡ record old {
      most_blocks = most;
      limit_lines = old.limit_lines + 1;
      early_blocks = old.early_blocks + length old.blocks;
    }
IsWithLine old thing new = new ≡ record old { things = old.things ++ thing ∷ [] }

-- a map begins bare, each line changes its own part of it, and the solids are the walls and then the blocks in their order
pub record LinesChangeTheirParts : Type 0 where
  pub begun : (lo hi : Vec3) → IsBareMap lo hi (bare_map lo hi)
  pub added : (map : MapView) (line : MapLine) → IsWithLine map line (with_line map line)
  pub solids : (map : MapView) → solids_of map ≡ walls_of map.bounds ++ map.blocks
