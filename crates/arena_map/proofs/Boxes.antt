-- The boxes of lines.
use Rattle.std.proofs.Common.{◌≡◌, ℤ, pos, ◌≤ℤ◌, FitsSigned, w32, true, Bool, false, ◌&&◌, refl, int_lt, arith}
use Rattle.std.proofs.lemmas.Int.{ints}
use Rattle.arena_geo.specs.declared.vec3.Vec3.{Vec3}
use Rattle.arena_geo.specs.Vectors.{IsNear, Fits, plus}
use Rattle.arena_geo.specs.Bounds.{bounds, IsOrdered, IsBox}
use Rattle.arena_map.specs.Positions.{is_long, is_wide, is_thick, item_body, upwards, shaft}

pub three_parts : (a b c : Bool) → (a && b && c) ≡ true → (a ≡ true) × (b ≡ true) × (c ≡ true)
three_parts true true c h = (refl, refl, h)
three_parts true false c h = cc
three_parts false b c h = cc

-- a long side is in order
long_side : (from to : ℤ) → is_long from to ≡ true → from ≤ℤ to
long_side from to h = grind (arith, ints)

-- a thick side is in order
thick_side : (from to : ℤ) → int_lt from to ≡ true → from ≤ℤ to
thick_side from to h = grind (arith, ints)

nearer : (v : Vec3) → IsNear 1048576 v → IsNear 2097152 v
nearer v near = record { x = omega (arith, near.x); y = omega (arith, near.y); z = omega (arith, near.z) }

-- corners that are near enough and in order are those of a box
pub near_box : (lo hi : Vec3) → IsNear 1048576 lo → IsNear 1048576 hi → IsOrdered (bounds lo hi) → IsBox (bounds lo hi)
near_box lo hi low high ordered = record { ordered = ordered; in_range = record { lo = nearer lo low; hi = nearer hi high } }

-- an arena with long sides is in order
pub wide_ordered : (lo hi : Vec3) → is_wide lo hi ≡ true → IsOrdered (bounds lo hi)
wide_ordered lo hi h =
    let parts = three_parts (is_long lo.x hi.x) (is_long lo.y hi.y) (is_long lo.z hi.z) h in
    record { x = long_side lo.x hi.x parts.0; y = long_side lo.y hi.y parts.1; z = long_side lo.z hi.z parts.2 }

-- so is a box with an inside
pub thick_ordered : (lo hi : Vec3) → is_thick lo hi ≡ true → IsOrdered (bounds lo hi)
thick_ordered lo hi h =
    let parts = three_parts (int_lt lo.x hi.x) (int_lt lo.y hi.y) (int_lt lo.z hi.z) h in
    record { x = thick_side lo.x hi.x parts.0; y = thick_side lo.y hi.y parts.1; z = thick_side lo.z hi.z parts.2 }

pub thick_box : (lo hi : Vec3) → IsNear 1048576 lo → IsNear 1048576 hi → is_thick lo hi ≡ true → IsBox (bounds lo hi)
thick_box lo hi low high h = near_box lo hi low high (thick_ordered lo hi h)

-- the body of an item is a box
pub item_is_box : (at : Vec3) → IsNear 1048576 at → IsBox (item_body at)
item_is_box at near = record {
  ordered = record { x = omega (arith, ints); y = omega (arith, ints); z = omega (arith, ints) };
  in_range = record {
    lo = record { x = omega (arith, ints); y = omega (arith, ints); z = omega (arith, ints) };
    hi = record { x = omega (arith, ints); y = omega (arith, ints); z = omega (arith, ints) };
  };
}

-- a lift's rise leaves its high corner in range
pub rise_fits : (hi : Vec3) (rise : ℤ) → IsNear 1048576 hi → pos 1 ≤ℤ rise → rise ≤ℤ pos 1048576 → Fits (plus hi (upwards rise))
rise_fits hi rise near least most = record { x = search (arith, ints); y = search (arith, ints); z = search (arith, ints) }

-- a lift's shaft is a box
pub shaft_is_box : (lo hi : Vec3) (rise : ℤ) → IsNear 1048576 lo → IsNear 1048576 hi → is_thick lo hi ≡ true → pos 1 ≤ℤ rise → rise ≤ℤ pos 1048576
    → IsBox (shaft lo hi rise)
shaft_is_box lo hi rise low high thick least most =
    let ordered = thick_ordered lo hi thick in
    record {
      ordered = record { x = omega (arith, ints, ordered.x); y = omega (arith, ints, ordered.y); z = omega (arith, ints, ordered.z, least) };
      in_range = record {
        lo = nearer lo low;
        hi = record { x = omega (arith, ints, high.x); y = omega (arith, ints, high.y); z = omega (arith, ints, high.z, least, most) };
      };
    }

-- a rise is an i32
pub rise-fits : (rise : ℤ) → pos 1 ≤ℤ rise → rise ≤ℤ pos 1048576 → FitsSigned w32 rise
rise-fits rise least most = search (arith, ints)
