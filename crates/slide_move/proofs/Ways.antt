-- Parts of a way on all axes, and the velocity.
use Rattle.std.proofs.Common.{◌≡◌, ℕ, ◌≤◌, Bool, true, false, cond, ◌⊎◌, rules, inl, inr, ℤ, pos, ◌+ℤ◌, ◌-ℤ◌, Some, None, IfSome, refl, ◌∙◌, arith}
use Rattle.std.specs.Int.{w32}
use Rattle.std.proofs.lemmas.Int.{ints, fits_signed_from_abs}
use Rattle.std.proofs.Math.IntN.{+ℤ_assoc}
use Rattle.arena_geo.specs.declared.vec3.Vec3.{Vec3}
use Rattle.arena_geo.specs.Vectors.{zero_vector, IsNear, Fits, plus, minus}
use Rattle.arena_geo.specs.Bounds.{Bounds, IsInRange}
use Rattle.arena_geo.specs.Boxes.{box_moved_by}
use Rattle.arena_geo.proofs.Vectors.{plus-zero_vector}
use Rattle.box_trace.specs.declared.axis.Axis.{Axis}
use Rattle.box_trace.specs.declared.axis.Axis.TheVariants.{X, Y, Z}
use Rattle.box_trace.specs.Steps.{step_count, shift_at}
use Rattle.box_trace.proofs.Insides.{part_at-zero}
use Rattle.slide_move.specs.Displacements.{without, is_zero_vector, some_way}
use Rattle.slide_move.specs.Changes.{IsPartOfWay, KeepsOrStops}
use Rattle.slide_move.proofs.Parts.{IsPart-zero, IsPart-refl, IsPart-trans, IsPart-minus, IsPart-left, IsPart-plus, IsPart-part_at, in_range_after_part}

-- ---- sums

zero_plus : (a : ℤ) → pos 0 +ℤ a ≡ a
zero_plus a = omega (arith, ints)

minus_plus : (a b c : ℤ) → (a -ℤ b) -ℤ c ≡ a -ℤ (b +ℤ c)
minus_plus a b c = omega (arith, ints)

minus_zero : (a : ℤ) → a -ℤ pos 0 ≡ a
minus_zero a = omega (arith, ints)

pub zero_vector-plus : (v : Vec3) → plus zero_vector v ≡ v
zero_vector-plus v = λ i. record { x = zero_plus v.x i; y = zero_plus v.y i; z = zero_plus v.z i }

pub plus-assoc : (u v w : Vec3) → plus (plus u v) w ≡ plus u (plus v w)
plus-assoc u v w =
    λ i. record { x = +ℤ_assoc u.x v.x w.x i; y = +ℤ_assoc u.y v.y w.y i; z = +ℤ_assoc u.z v.z w.z i }

pub minus-plus : (u v w : Vec3) → minus (minus u v) w ≡ minus u (plus v w)
minus-plus u v w =
    λ i. record { x = minus_plus u.x v.x w.x i; y = minus_plus u.y v.y w.y i; z = minus_plus u.z v.z w.z i }

pub minus-zero_vector : (v : Vec3) → minus v zero_vector ≡ v
minus-zero_vector v = λ i. record { x = minus_zero v.x i; y = minus_zero v.y i; z = minus_zero v.z i }

pub moved-zero_vector : (body : Bounds) → box_moved_by body zero_vector ≡ body
moved-zero_vector body = λ i. record { lo = plus-zero_vector body.lo i; hi = plus-zero_vector body.hi i }

pub moved-moved : (body : Bounds) (u v : Vec3) → box_moved_by (box_moved_by body u) v ≡ box_moved_by body (plus u v)
moved-moved body u v = λ i. record { lo = plus-assoc body.lo u v i; hi = plus-assoc body.hi u v i }

-- ---- parts of a way
pub IsPartOfWay-zero_vector : (way : Vec3) → IsPartOfWay way zero_vector
IsPartOfWay-zero_vector way = record { x = IsPart-zero way.x; y = IsPart-zero way.y; z = IsPart-zero way.z }

pub IsPartOfWay-refl : (way : Vec3) → IsPartOfWay way way
IsPartOfWay-refl way = record { x = IsPart-refl way.x; y = IsPart-refl way.y; z = IsPart-refl way.z }

pub IsPartOfWay-trans : (way part piece : Vec3) → IsPartOfWay way part → IsPartOfWay part piece → IsPartOfWay way piece
IsPartOfWay-trans way part piece p q = record {
  x = IsPart-trans _ _ _ p.x q.x;
  y = IsPart-trans _ _ _ p.y q.y;
  z = IsPart-trans _ _ _ p.z q.z;
}

pub IsPartOfWay-minus : (way part piece : Vec3) → IsPartOfWay way part → IsPartOfWay part piece
    → IsPartOfWay (minus way piece) (minus part piece)
IsPartOfWay-minus way part piece p q = record {
  x = IsPart-minus _ _ _ p.x q.x;
  y = IsPart-minus _ _ _ p.y q.y;
  z = IsPart-minus _ _ _ p.z q.z;
}

pub IsPartOfWay-left : (way part : Vec3) → IsPartOfWay way part → IsPartOfWay way (minus way part)
IsPartOfWay-left way part p =
    record { x = IsPart-left _ _ p.x; y = IsPart-left _ _ p.y; z = IsPart-left _ _ p.z }

pub IsPartOfWay-plus : (way first next : Vec3) → IsPartOfWay way first → IsPartOfWay (minus way first) next
    → IsPartOfWay way (plus first next)
IsPartOfWay-plus way first next p q = record {
  x = IsPart-plus _ _ _ p.x q.x;
  y = IsPart-plus _ _ _ p.y q.y;
  z = IsPart-plus _ _ _ p.z q.z;
}

pub IsPartOfWay-shift_at : (way : Vec3) (k : ℕ) → k ≤ step_count way → IsPartOfWay way (shift_at way k)
IsPartOfWay-shift_at way k within = record {
  x = IsPart-part_at _ k way.x within;
  y = IsPart-part_at _ k way.y within;
  z = IsPart-part_at _ k way.z within;
}

pub IsNear-part : (way part : Vec3) (far : ℕ) → IsPartOfWay way part → IsNear far way → IsNear far part
IsNear-part way part far p near =
    let x = p.x.no_farther in
    let y = p.y.no_farther in
    let z = p.z.no_farther in
    record { x = omega arith; y = omega arith; z = omega arith }

pub IsNear-more : (v : Vec3) (near far : ℕ) → near ≤ far → IsNear near v → IsNear far v
IsNear-more v near far more is = record { x = omega arith; y = omega arith; z = omega arith }

pub Fits-near : (v : Vec3) → IsNear 65536 v → Fits v
Fits-near v is = record {
  x = fits_signed_from_abs w32 v.x (omega arith);
  y = fits_signed_from_abs w32 v.y (omega arith);
  z = fits_signed_from_abs w32 v.z (omega arith);
}

-- what the steps of a way leave of it
pub Fits-left : (way : Vec3) (k : ℕ) → IsNear 65536 way → k ≤ step_count way → Fits (minus way (shift_at way k))
Fits-left way k near within =
    Fits-near _ (IsNear-part way _ 65536 (IsPartOfWay-left way _ (IsPartOfWay-shift_at way k within)) near)

near_after_part : (from way part : Vec3) (far : ℕ) → IsPartOfWay way part → IsNear far from → IsNear far (plus from way)
    → IsNear far (plus from part)
near_after_part from way part far p first last = record {
  x = in_range_after_part from.x way.x part.x far p.x first.x last.x;
  y = in_range_after_part from.y way.y part.y far p.y first.y last.y;
  z = in_range_after_part from.z way.z part.z far p.z first.z last.z;
}

-- a body that is in range at both ends of a way is in range at the end of a part of it
pub IsInRange-part : (body : Bounds) (way part : Vec3) → IsPartOfWay way part → IsInRange body
    → IsInRange (box_moved_by body way) → IsInRange (box_moved_by body part)
IsInRange-part body way part p first last = record {
  lo = near_after_part body.lo way part 2097152 p first.lo last.lo;
  hi = near_after_part body.hi way part 2097152 p first.hi last.hi;
}

-- ---- a vector without a part
without-IsPart : (axis : Axis) (v : Vec3) → IsPartOfWay v (without axis v)
without-IsPart X v = record { x = IsPart-zero v.x; y = IsPart-refl v.y; z = IsPart-refl v.z }
without-IsPart Y v = record { x = IsPart-refl v.x; y = IsPart-zero v.y; z = IsPart-refl v.z }
without-IsPart Z v = record { x = IsPart-refl v.x; y = IsPart-refl v.y; z = IsPart-zero v.z }

pub without-KeepsOrStops : (axis : Axis) (v : Vec3) → KeepsOrStops v (without axis v)
without-KeepsOrStops X v = record { x = inr refl; y = inl refl; z = inl refl }
without-KeepsOrStops Y v = record { x = inl refl; y = inr refl; z = inl refl }
without-KeepsOrStops Z v = record { x = inl refl; y = inl refl; z = inr refl }

-- what a hit on an axis leaves of a way
pub some_way-IsPart : (axis : Axis) (way : Vec3) → IfSome (some_way (without axis way)) (λ rest. IsPartOfWay way rest)
some_way-IsPart axis way = by_test (is_zero_vector (without axis way)) where
  by_test : (t : Bool) → IfSome (cond t None (Some (without axis way))) (λ rest. IsPartOfWay way rest)
  by_test true = search rules
  by_test false = without-IsPart axis way

-- ---- the velocity
pub KeepsOrStops-refl : (v : Vec3) → KeepsOrStops v v
KeepsOrStops-refl v = record { x = inl refl; y = inl refl; z = inl refl }

pub KeepsOrStops-zero_vector : (v : Vec3) → KeepsOrStops v zero_vector
KeepsOrStops-zero_vector v = record { x = inr refl; y = inr refl; z = inr refl }

kept_or_stopped : (a b c : ℤ) → (b ≡ a) ⊎ (b ≡ pos 0) → (c ≡ b) ⊎ (c ≡ pos 0) → (c ≡ a) ⊎ (c ≡ pos 0)
kept_or_stopped a b c (inl p) (inl q) = inl (q ∙ p)
kept_or_stopped a b c (inr p) (inl q) = inr (q ∙ p)
kept_or_stopped a b c p (inr q) = inr q

pub KeepsOrStops-trans : (u v w : Vec3) → KeepsOrStops u v → KeepsOrStops v w → KeepsOrStops u w
KeepsOrStops-trans u v w p q = record {
  x = kept_or_stopped u.x v.x w.x p.x q.x;
  y = kept_or_stopped u.y v.y w.y p.y q.y;
  z = kept_or_stopped u.z v.z w.z p.z q.z;
}

-- ---- no step

pub shift_at-zero : (way : Vec3) → shift_at way 0 ≡ zero_vector
shift_at-zero way = λ i. record {
  x = part_at-zero (step_count way) way.x i;
  y = part_at-zero (step_count way) way.y i;
  z = part_at-zero (step_count way) way.z i;
}
