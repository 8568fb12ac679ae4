-- The steps at which a span overlaps another.
use Rattle.std.proofs.Common.{◌≡◌, ℕ, suc, ◌*◌, ◌/◌, Bool, ◌&&◌, nat_le, nat_lt, ℤ, pos, negsuc, ◌+ℤ◌, ◌-ℤ◌, ◌<ℤ◌, neg_ℤ, unsigned_abs, int_le, int_lt, ◌∙◌, arith}
use Rattle.std.proofs.lemmas.Bool.Decides.{nat_tests}
use Rattle.std.proofs.lemmas.Int.{ints}
use Rattle.std.proofs.Math.Bool.{and_comm}
use Rattle.arena_geo.specs.Boxes.{overlaps_on}
use Rattle.box_trace.specs.declared.span.Span.{Span}
use Rattle.box_trace.specs.declared.window.Window.{Window}
use Rattle.box_trace.specs.Windows.{IsFirstReach, IsOverlapWindow, span_mirrored}
use Rattle.box_trace.proofs.Parts.{part_at-neg}

-- two tests, each given by another, in the other order
swapped : {a b c d : Bool} → a ≡ c → b ≡ d → (a && b) ≡ (d && c)
swapped {a} {b} p q = and_comm a b ∙ (λ i. q i && p i)

-- it has come farther than to touch
after_touch : (hi other_lo target : ℤ) (m from k : ℕ) → target ≡ other_lo -ℤ hi +ℤ pos 1
    → nat_le from k ≡ int_le target (pos m) → int_lt other_lo (hi +ℤ pos m) ≡ nat_le from k
after_touch hi other_lo target m from k target_is reach = grind (arith, ints)

-- it has not yet passed the other
before_leaving : (lo other_hi target : ℤ) (m to k : ℕ) → target ≡ other_hi -ℤ lo → nat_le to k ≡ int_le target (pos m)
    → int_lt (lo +ℤ pos m) other_hi ≡ nat_lt k to
before_leaving lo other_hi target m to k target_is reach = grind (arith, ints, nat_tests)

pub window_upwards_is : (s other : Span) (size count from to : ℕ) (near far : ℤ) → near ≡ other.lo -ℤ s.hi +ℤ pos 1
    → far ≡ other.hi -ℤ s.lo → IsFirstReach near size count from → IsFirstReach far size count to
    → IsOverlapWindow s other (pos size) count (record { from = from; to = to })
window_upwards_is s other size count from to near far near_is far_is first last = record {
  within = last.within;
  inside = λ k h. swapped
      (before_leaving s.lo other.hi far (size * k / count) to k far_is (last.reach k h))
      (after_touch s.hi other.lo near (size * k / count) from k near_is (first.reach k h));
}

turned_left : (lo other_hi : ℤ) (m : ℕ)
    → int_lt (lo +ℤ neg_ℤ (pos m)) other_hi ≡ int_lt (neg_ℤ other_hi) (neg_ℤ lo +ℤ pos m)
turned_left lo other_hi m = grind (arith, ints)

turned_right : (hi other_lo : ℤ) (m : ℕ)
    → int_lt other_lo (hi +ℤ neg_ℤ (pos m)) ≡ int_lt (neg_ℤ hi +ℤ pos m) (neg_ℤ other_lo)
turned_right hi other_lo m = grind (arith, ints)

-- the mirrored spans overlap where the spans do
overlaps_on-mirrored : (lo hi other_lo other_hi : ℤ) (m : ℕ)
    → overlaps_on (lo +ℤ neg_ℤ (pos m)) (hi +ℤ neg_ℤ (pos m)) other_lo other_hi ≡ overlaps_on (neg_ℤ hi +ℤ pos m) (neg_ℤ lo +ℤ pos m) (neg_ℤ other_hi) (neg_ℤ other_lo)
overlaps_on-mirrored lo hi other_lo other_hi m = swapped (turned_left lo other_hi m) (turned_right hi other_lo m)

mirrored_window : (s other : Span) (part : ℤ) (count : ℕ) (window : Window) → part <ℤ pos 0
    → IsOverlapWindow (span_mirrored s) (span_mirrored other) (pos (unsigned_abs part)) count window
    → IsOverlapWindow s other part count window
mirrored_window s other (pos n) count window below upwards = absurd (omega (arith, ints))
mirrored_window s other (negsuc n) count window below upwards = record {
  within = upwards.within;
  inside = λ k h. rw part_at-neg (overlaps_on-mirrored s.lo s.hi other.lo other.hi (suc n * k / count) ∙ upwards.inside k h);
}

-- the window of a part below 0 is that of the mirrored spans
pub window_from_mirrored : (s other t u : Span) (part : ℤ) (size count : ℕ) (window : Window) → part <ℤ pos 0
    → t ≡ span_mirrored s → u ≡ span_mirrored other → size ≡ unsigned_abs part → IsOverlapWindow t u (pos size) count window
    → IsOverlapWindow s other part count window
window_from_mirrored s other t u part size count window below t_is u_is size_is upwards =
    mirrored_window s other part count window below (rw (t_is, u_is, size_is) at upwards)
