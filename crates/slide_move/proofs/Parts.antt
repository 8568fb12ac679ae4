-- What is a part of a way on one axis.
use Rattle.std.proofs.Common.{ℕ, ◌≤◌, ℤ, pos, negsuc, ◌+ℤ◌, ◌-ℤ◌, ◌≤ℤ◌, unsigned_abs, arith}
use Rattle.std.proofs.lemmas.Int.{ints}
use Rattle.box_trace.specs.Steps.{part_at}
use Rattle.box_trace.proofs.Parts.{share_le, part_at-neg, unsigned_abs-part_at_le}
use Rattle.slide_move.specs.Changes.{IsPart}

pub IsPart-zero : (whole : ℤ) → IsPart whole (pos 0)
IsPart-zero whole = record {
  no_farther = omega (arith, ints);
  stays_positive = λ h. omega (arith, ints);
  stays_negative = λ h. omega (arith, ints);
}

pub IsPart-refl : (whole : ℤ) → IsPart whole whole
IsPart-refl whole = record { no_farther = omega arith; stays_positive = λ h. h; stays_negative = λ h. h }

pub IsPart-trans : (whole part piece : ℤ) → IsPart whole part → IsPart part piece → IsPart whole piece
IsPart-trans whole part piece p q =
    let far = p.no_farther in
    let near = q.no_farther in
    record {
      no_farther = omega arith;
      stays_positive = λ h. q.stays_positive (p.stays_positive h);
      stays_negative = λ h. q.stays_negative (p.stays_negative h);
    }

-- what a piece leaves of a part is a part of what it leaves of the whole
pub IsPart-minus : (whole part piece : ℤ) → IsPart whole part → IsPart part piece
    → IsPart (whole -ℤ piece) (part -ℤ piece)
IsPart-minus (pos n) part piece p q =
    let far = p.no_farther in
    let near = q.no_farther in
    let up : pos 0 ≤ℤ part = p.stays_positive (omega (arith, ints)) in
    let on : pos 0 ≤ℤ piece = q.stays_positive up in
    record {
      no_farther = omega (arith, ints);
      stays_positive = λ h. omega (arith, ints);
      stays_negative = λ h. omega (arith, ints);
    }
IsPart-minus (negsuc n) part piece p q =
    let far = p.no_farther in
    let near = q.no_farther in
    let down : part ≤ℤ pos 0 = p.stays_negative (omega (arith, ints)) in
    let on : piece ≤ℤ pos 0 = q.stays_negative down in
    record {
      no_farther = omega (arith, ints);
      stays_positive = λ h. omega (arith, ints);
      stays_negative = λ h. omega (arith, ints);
    }

-- what a part leaves
pub IsPart-left : (whole part : ℤ) → IsPart whole part → IsPart whole (whole -ℤ part)
IsPart-left (pos n) part p =
    let far = p.no_farther in
    let up : pos 0 ≤ℤ part = p.stays_positive (omega (arith, ints)) in
    record {
      no_farther = omega (arith, ints);
      stays_positive = λ h. omega (arith, ints);
      stays_negative = λ h. omega (arith, ints);
    }
IsPart-left (negsuc n) part p =
    let far = p.no_farther in
    let down : part ≤ℤ pos 0 = p.stays_negative (omega (arith, ints)) in
    record {
      no_farther = omega (arith, ints);
      stays_positive = λ h. omega (arith, ints);
      stays_negative = λ h. omega (arith, ints);
    }

-- a part, and then a part of what it leaves
pub IsPart-plus : (whole first next : ℤ) → IsPart whole first → IsPart (whole -ℤ first) next
    → IsPart whole (first +ℤ next)
IsPart-plus (pos n) first next p q =
    let far = p.no_farther in
    let near = q.no_farther in
    let up : pos 0 ≤ℤ first = p.stays_positive (omega (arith, ints)) in
    let on : pos 0 ≤ℤ next = q.stays_positive (omega (arith, ints)) in
    record {
      no_farther = omega (arith, ints);
      stays_positive = λ h. omega (arith, ints);
      stays_negative = λ h. omega (arith, ints);
    }
IsPart-plus (negsuc n) first next p q =
    let far = p.no_farther in
    let near = q.no_farther in
    let down : first ≤ℤ pos 0 = p.stays_negative (omega (arith, ints)) in
    let on : next ≤ℤ pos 0 = q.stays_negative (omega (arith, ints)) in
    record {
      no_farther = omega (arith, ints);
      stays_positive = λ h. omega (arith, ints);
      stays_negative = λ h. omega (arith, ints);
    }

-- how far a part has come at a step
pub IsPart-part_at : (n k : ℕ) (part : ℤ) → k ≤ n → IsPart part (part_at n k part)
IsPart-part_at n k (pos a) within =
    let share = share_le a k n within in
    record {
      no_farther = share;
      stays_positive = λ h. omega (arith, ints);
      stays_negative = λ h. omega (arith, ints);
    }
IsPart-part_at n k (negsuc a) within = record {
  no_farther = unsigned_abs-part_at_le n k (negsuc a) within;
  stays_positive = λ h. absurd (omega (arith, ints));
  stays_negative = λ h. rw part_at-neg (omega (arith, ints));
}

-- what is in range at both ends of the whole is in range at the end of a part
pub in_range_after_part : (from whole part : ℤ) (far : ℕ) → IsPart whole part → unsigned_abs from ≤ far
    → unsigned_abs (from +ℤ whole) ≤ far → unsigned_abs (from +ℤ part) ≤ far
in_range_after_part from (pos n) part far p first last =
    let size = p.no_farther in
    let up : pos 0 ≤ℤ part = p.stays_positive (omega (arith, ints)) in
    omega (arith, ints)
in_range_after_part from (negsuc n) part far p first last =
    let size = p.no_farther in
    let down : part ≤ℤ pos 0 = p.stays_negative (omega (arith, ints)) in
    omega (arith, ints)
