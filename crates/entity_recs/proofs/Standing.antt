-- That records have boxes.
use Rattle.std.proofs.Common.{◌≡◌, ℤ, pos, ◌+ℤ◌, ◌-ℤ◌, true, ◌≤ℤ◌, arith}
use Rattle.std.proofs.lemmas.Int.{ints}
use Rattle.arena_geo.specs.declared.vec3.Vec3.{Vec3}
use Rattle.arena_geo.specs.Vectors.{IsNear, IsNotNegative, plus}
use Rattle.arena_geo.specs.Bounds.{Bounds, IsOrdered, IsBox}
use Rattle.arena_geo.specs.Boxes.{contains_on, contains, box_grown_by}
use Rattle.arena_geo.proofs.Ranges.{IsOrdered-grown}
use Rattle.arena_geo.proofs.Containment.{all_three}
use Rattle.entity_recs.specs.declared.kind.Kind.{Kind}
use Rattle.entity_recs.specs.declared.kind.Kind.TheVariants.{Player, Ammo, Gem, Teleporter, Goal, Lift}
use Rattle.entity_recs.specs.declared.bodies.TheConstants.{ITEM_MINS, ITEM_MAXS, GROWTH, ITEM_GROWTH}
use Rattle.entity_recs.specs.Records.{IsAboveZero, IsMapBox, IsShapeOf}
use Rattle.entity_recs.specs.Bodies.{box_at_origin, player_body, growth_of, body_of}
use Rattle.entity_recs.specs.Laws.{RecordsHaveBoxes, AbsContainsBody}

-- ordered, and so near to 0 that it may grow by 3,840
pub record IsRoomy (b : Bounds) : Type 0 where
  pub ordered : IsOrdered b
  pub low : IsNear 1062912 b.lo
  pub high : IsNear 1062912 b.hi

player_is_roomy : (origin : Vec3) → IsNear 1048576 origin → IsRoomy (player_body origin)
player_is_roomy origin near = record {
  ordered = record { x = omega (arith, ints); y = omega (arith, ints); z = omega (arith, ints) };
  low = record { x = omega (arith, ints); y = omega (arith, ints); z = omega (arith, ints) };
  high = record { x = omega (arith, ints); y = omega (arith, ints); z = omega (arith, ints) };
}

item_is_roomy : (origin : Vec3) → IsNear 1048576 origin → IsRoomy (box_at_origin origin ITEM_MINS ITEM_MAXS)
item_is_roomy origin near = record {
  ordered = record { x = omega (arith, ints); y = omega (arith, ints); z = omega (arith, ints) };
  low = record { x = omega (arith, ints); y = omega (arith, ints); z = omega (arith, ints) };
  high = record { x = omega (arith, ints); y = omega (arith, ints); z = omega (arith, ints) };
}

abbrev zero_vector : Vec3
zero_vector = record { x = pos 0; y = pos 0; z = pos 0 }

sized_is_roomy : (origin maxs : Vec3) → IsNear 1048576 origin → IsAboveZero maxs → IsNear 1048576 (plus origin maxs) → IsRoomy (box_at_origin origin zero_vector maxs)
sized_is_roomy origin maxs near size high = record {
  ordered = record { x = omega (arith, ints); y = omega (arith, ints); z = omega (arith, ints) };
  low = record { x = omega (arith, ints); y = omega (arith, ints); z = omega (arith, ints) };
  high = record { x = omega (arith, ints); y = omega (arith, ints); z = omega (arith, ints) };
}

map_box_is_roomy : (origin mins maxs : Vec3) → IsNear 1048576 origin → IsMapBox origin mins maxs → IsRoomy (box_at_origin origin mins maxs)
map_box_is_roomy origin mins maxs near box = rw box.low_is (sized_is_roomy origin maxs near box.has_size box.high)

pub shape_is_roomy : (kind : Kind) (origin mins maxs : Vec3) → IsNear 1048576 origin → IsShapeOf kind origin mins maxs → IsRoomy (box_at_origin origin mins maxs)
shape_is_roomy Player origin mins maxs near shape = rw (shape.low_is, shape.high_is) (player_is_roomy origin near)
shape_is_roomy Ammo origin mins maxs near shape = rw (shape.low_is, shape.high_is) (item_is_roomy origin near)
shape_is_roomy Gem origin mins maxs near shape = rw (shape.low_is, shape.high_is) (item_is_roomy origin near)
shape_is_roomy Teleporter origin mins maxs near shape = map_box_is_roomy origin mins maxs near shape
shape_is_roomy Goal origin mins maxs near shape = map_box_is_roomy origin mins maxs near shape
shape_is_roomy Lift origin mins maxs near shape = map_box_is_roomy origin mins maxs near shape

roomy_is_box : (b : Bounds) → IsRoomy b → IsBox b
roomy_is_box b roomy = record {
  ordered = roomy.ordered;
  in_range = record {
    lo = record { x = omega arith; y = omega arith; z = omega arith };
    hi = record { x = omega arith; y = omega arith; z = omega arith };
  };
}

-- at most 3,840 on each axis, and not negative
pub record IsSmallGrowth (by : Vec3) : Type 0 where
  pub positive : IsNotNegative by
  pub near : IsNear 3840 by

body_growth_is_small : IsSmallGrowth GROWTH
body_growth_is_small = record {
  positive = record { x = omega (arith, ints); y = omega (arith, ints); z = omega (arith, ints) };
  near = record { x = omega arith; y = omega arith; z = omega arith };
}

item_growth_is_small : IsSmallGrowth ITEM_GROWTH
item_growth_is_small = record {
  positive = record { x = omega (arith, ints); y = omega (arith, ints); z = omega (arith, ints) };
  near = record { x = omega arith; y = omega arith; z = omega arith };
}

pub growth_is_small : (kind : Kind) → IsSmallGrowth (growth_of kind)
growth_is_small Player = body_growth_is_small
growth_is_small Ammo = item_growth_is_small
growth_is_small Gem = item_growth_is_small
growth_is_small Teleporter = body_growth_is_small
growth_is_small Goal = body_growth_is_small
growth_is_small Lift = body_growth_is_small

grown_is_box : (b : Bounds) (by : Vec3) → IsRoomy b → IsSmallGrowth by → IsBox (box_grown_by b by)
grown_is_box b by roomy small = record {
  ordered = IsOrdered-grown b by roomy.ordered small.positive;
  in_range = record {
    lo = record { x = omega (arith, ints); y = omega (arith, ints); z = omega (arith, ints) };
    hi = record { x = omega (arith, ints); y = omega (arith, ints); z = omega (arith, ints) };
  };
}

pub player_is_box : (origin : Vec3) → IsNear 1048576 origin → IsBox (player_body origin)
player_is_box origin near = roomy_is_box _ (player_is_roomy origin near)

pub records_have_boxes : RecordsHaveBoxes
records_have_boxes r within =
    let roomy = shape_is_roomy r.kind r.origin r.mins r.maxs within.origin within.shape in
    record { body = roomy_is_box _ roomy; abs = grown_is_box _ _ roomy (growth_is_small r.kind) }

contains_on-grown : (lo hi by : ℤ) → pos 0 ≤ℤ by → contains_on (lo -ℤ by) (hi +ℤ by) lo hi ≡ true
contains_on-grown lo hi by positive = grind (arith, ints)

pub contains-grown : (b : Bounds) (by : Vec3) → IsNotNegative by → contains (box_grown_by b by) b ≡ true
contains-grown b by positive = all_three (contains_on-grown b.lo.x b.hi.x by.x positive.x) (contains_on-grown b.lo.y b.hi.y by.y positive.y) (contains_on-grown b.lo.z b.hi.z by.z positive.z)

pub abs_contains_body : AbsContainsBody
abs_contains_body r = contains-grown (body_of r) (growth_of r.kind) (growth_is_small r.kind).positive
