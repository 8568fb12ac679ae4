-- Which boxes come out of the operations.
use Rattle.std.proofs.Common.{◌≡◌, Option, Some, None, SomeIff, arith, rules}
use Rattle.std.proofs.lemmas.Int.{ints, clamps}
use Rattle.arena_geo.specs.declared.vec3.Vec3.{Vec3}
use Rattle.arena_geo.specs.Vectors.{IsNotNegative, plus, minus}
use Rattle.arena_geo.specs.Bounds.{Bounds, bounds, IsOrdered, IsInRange, IsBox}
use Rattle.arena_geo.specs.Boxes.{box_grown_by, box_moved_by, hull}

-- a condition may be put for one that holds exactly where it does
pub some_iff_same : {T : Type 0} (r : Option T) (P Q : Type 0) (v : T) → (P → Q) → (Q → P) → SomeIff r P v
    → SomeIff r Q v
some_iff_same None P Q v to from none = λ q. none (from q)
some_iff_same (Some x) P Q v to from some = (to some.0, some.1)

pub IsOrdered-grown : (b : Bounds) (by : Vec3) → IsOrdered b → IsNotNegative by → IsOrdered (box_grown_by b by)
IsOrdered-grown b by ordered positive = record { x = omega (arith, ints); y = omega (arith, ints); z = omega (arith, ints) }

pub IsOrdered-moved : (b : Bounds) (by : Vec3) → IsOrdered b → IsOrdered (box_moved_by b by)
IsOrdered-moved b by ordered = record { x = omega (arith, ints); y = omega (arith, ints); z = omega (arith, ints) }

-- a box that is larger is one where it stays in range
pub IsBox-grown : (b : Bounds) (by : Vec3) → IsOrdered b → IsNotNegative by → IsInRange (box_grown_by b by) → IsBox (box_grown_by b by)
IsBox-grown b by ordered positive in_range = record { ordered = IsOrdered-grown b by ordered positive; in_range = in_range }

-- a box that is elsewhere is one where it stays in range
pub IsBox-moved : (b : Bounds) (by : Vec3) → IsOrdered b → IsInRange (box_moved_by b by) → IsBox (box_moved_by b by)
IsBox-moved b by ordered in_range = record { ordered = IsOrdered-moved b by ordered; in_range = in_range }

-- a box out of two corners is the grown one exactly where that is in range
pub grown_box : (b : Bounds) (by lo hi : Vec3) (r : Option Bounds) → lo ≡ minus b.lo by → hi ≡ plus b.hi by
    → IsOrdered b → IsNotNegative by → SomeIff r (IsBox (bounds lo hi)) (bounds lo hi)
    → SomeIff r (IsInRange (box_grown_by b by)) (box_grown_by b by)
grown_box b by lo hi r low high ordered positive made =
    let P : Vec3 → Vec3 → Type 0 = λ l h. SomeIff r (IsBox (bounds l h)) (bounds l h) in
    some_iff_same r (IsBox (box_grown_by b by)) (IsInRange (box_grown_by b by)) (box_grown_by b by) (λ box. box.in_range) (IsBox-grown b by ordered positive) (rw (low, high) at made)

-- a box out of two corners is the moved one exactly where that is in range
pub moved_box : (b : Bounds) (by lo hi : Vec3) (r : Option Bounds) → lo ≡ plus b.lo by → hi ≡ plus b.hi by → IsOrdered b
    → SomeIff r (IsBox (bounds lo hi)) (bounds lo hi) → SomeIff r (IsInRange (box_moved_by b by)) (box_moved_by b by)
moved_box b by lo hi r low high ordered made =
    some_iff_same r (IsBox (box_moved_by b by)) (IsInRange (box_moved_by b by)) (box_moved_by b by) (λ box. box.in_range) (IsBox-moved b by ordered) (rw (low, high) at made)

IsOrdered-hull : (a b : Bounds) → IsOrdered a → IsOrdered b → IsOrdered (hull a b)
IsOrdered-hull a b one other = record { x = omega (arith, ints, clamps); y = omega (arith, ints, clamps); z = omega (arith, ints, clamps) }

IsInRange-hull : (a b : Bounds) → IsInRange a → IsInRange b → IsInRange (hull a b)
IsInRange-hull a b one other = record {
  lo = record { x = search rules; y = search rules; z = search rules };
  hi = record { x = search rules; y = search rules; z = search rules };
}

-- the hull of boxes is a box
pub IsBox-hull : (a b : Bounds) → IsBox a → IsBox b → IsBox (hull a b)
IsBox-hull a b one other = record { ordered = IsOrdered-hull a b one.ordered other.ordered; in_range = IsInRange-hull a b one.in_range other.in_range }
