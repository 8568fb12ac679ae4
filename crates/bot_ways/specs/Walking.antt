-- What the code that writes a walk is given: places that an edge leads between, and walks.
use Rattle.std.specs.Prelude.{ℕ, ◌≤◌, List}
use Rattle.arena_geo.specs.declared.vec3.Vec3.{Vec3}
use Rattle.arena_geo.specs.Vectors.{IsNear}
use Rattle.arena_map.specs.Maps.{MapView}
use Rattle.bot_ways.specs.Edges.{distance}
use Rattle.bot_ways.specs.Walks.{IsWalk}

-- the places are near enough, apart, and at most 65,536 from each other on x and y
pub record IsStride (from to : Vec3) : Type 0 where
  pub near : IsNear 1048576 from
  pub near_to : IsNear 1048576 to
  pub apart : 1 ≤ distance from to
  pub few : distance from to ≤ 65536

-- the list is a walk from some waypoint to some waypoint
pub record IsSomeWalk (m : MapView) (walk : List ℕ) : Type 0 where
  pub from : ℕ
  pub to : ℕ
  pub far : ℕ
  pub is : IsWalk m from to walk far
