-- The velocity along the wish of a player, in units.
use Rattle.std.specs.Prelude.{ℕ, min, Bool, ℤ, ◌*ℤ◌}
use Rattle.arena_geo.specs.declared.vec3.Vec3.{Vec3}
use Rattle.speed_rules.specs.declared.constants.TheConstants.{UNIT, MAX_SPEED}
use Rattle.speed_rules.specs.Measures.{length_of, dot_of, cross_of, part_along}
use Rattle.speed_rules.specs.Rules.{cap_of, greatest_gain}

-- the length of the wish, rounded down
abbrev pub wish_length : ℤ → ℤ → ℕ
wish_length wish_x wish_y = length_of (wish_x *ℤ UNIT) (wish_y *ℤ UNIT)

-- the product of the velocity with the wish, axis by axis
abbrev pub dot_with_wish : Vec3 → ℤ → ℤ → ℤ
dot_with_wish v wish_x wish_y = dot_of v (wish_x *ℤ UNIT) (wish_y *ℤ UNIT)

-- the product of the velocity across the wish: the wish's length times the part at a right angle to it
abbrev pub cross_with_wish : Vec3 → ℤ → ℤ → ℤ
cross_with_wish v wish_x wish_y = cross_of v (wish_x *ℤ UNIT) (wish_y *ℤ UNIT)

-- the part of the velocity along the wish
abbrev pub part_along_wish : Vec3 → ℤ → ℤ → ℤ
part_along_wish v wish_x wish_y =
    part_along v (wish_x *ℤ UNIT) (wish_y *ℤ UNIT) (wish_length wish_x wish_y)

-- the part along the wish up to which a player is accelerated
abbrev pub wish_cap : Bool → ℤ → ℤ → ℕ
wish_cap on_ground wish_x wish_y = cap_of on_ground (min (wish_length wish_x wish_y) MAX_SPEED)

-- what so many milliseconds may add to the part along the wish
abbrev pub wish_gain : ℤ → ℤ → ℕ → ℕ
wish_gain wish_x wish_y ms = greatest_gain (wish_length wish_x wish_y) ms
