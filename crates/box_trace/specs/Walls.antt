-- The walls of an arena: the solids that bound it.
use Rattle.std.specs.Prelude.{◌≡◌, true, List, [], ◌∷◌, pos}
use Rattle.arena_geo.specs.declared.vec3.Vec3.{Vec3}
use Rattle.arena_geo.specs.Vectors.{vector, plus, minus}
use Rattle.arena_geo.specs.Bounds.{Bounds, bounds}
use Rattle.arena_geo.specs.Boxes.{is_blocked}

-- how thick a wall is on each axis, in sub-units
abbrev pub thick : Vec3
thick = vector (pos 16384) (pos 16384) (pos 16384)

-- the first vector, with its part on one axis from the second
abbrev pub with_x : Vec3 → Vec3 → Vec3
with_x v from = vector from.x v.y v.z

abbrev pub with_y : Vec3 → Vec3 → Vec3
with_y v from = vector v.x from.y v.z

abbrev pub with_z : Vec3 → Vec3 → Vec3
with_z v from = vector v.x v.y from.z

-- the corners of the arena and its walls
abbrev pub low : Bounds → Vec3
low b = minus b.lo thick

abbrev pub high : Bounds → Vec3
high b = plus b.hi thick

-- the six walls outside the arena: low x, high x, low y, high y, low z, high z
abbrev pub walls_of : Bounds → List Bounds
walls_of b =
    bounds (low b) (with_x (high b) b.lo)
    ∷ bounds (with_x (low b) b.hi) (high b)
    ∷ bounds (low b) (with_y (high b) b.lo)
    ∷ bounds (with_y (low b) b.hi) (high b)
    ∷ bounds (low b) (with_z (high b) b.lo)
    ∷ bounds (with_z (low b) b.hi) (high b)
    ∷ []

-- the solids block what the walls of the arena block
pub record HaveWalls (arena : Bounds) (solids : List Bounds) : Type 0 where
  pub blocked : (b : Bounds) → is_blocked b (walls_of arena) ≡ true → is_blocked b solids ≡ true
