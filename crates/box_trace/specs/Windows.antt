-- The steps at which a span that moves overlaps another one.
use Rattle.std.specs.Prelude.{◌≡◌, ℕ, ◌+◌, ◌*◌, ◌/◌, ◌≤◌, max, min, nat_le, nat_lt, ◌&&◌, if◌then◌else◌}
use Rattle.std.specs.Prelude.{Option, Some, None, ℤ, pos, ◌+ℤ◌, neg_ℤ, int_le, unsigned_abs}
use Rattle.arena_geo.specs.Boxes.{overlaps_on}
use Rattle.box_trace.specs.declared.span.Span.{Span}
use Rattle.box_trace.specs.declared.window.Window.{Window}
use Rattle.box_trace.specs.Steps.{part_at}

-- the span between these ends
abbrev pub span : ℤ → ℤ → Span
span lo hi = record { lo = lo; hi = hi }

-- the span on the axis that points the other way
abbrev pub span_mirrored : Span → Span
span_mirrored s = span (neg_ℤ s.hi) (neg_ℤ s.lo)

-- both ends are at most 2,097,152 from 0
pub record IsNearSpan (s : Span) : Type 0 where
  pub lo : unsigned_abs s.lo ≤ 2097152
  pub hi : unsigned_abs s.hi ≤ 2097152

-- the steps that lie in both windows, none where there are none
abbrev pub meet : Window → Window → Option Window
meet a b =
    let from = max a.from b.from in
    let to = min a.to b.to in
    if nat_lt from to then Some (record { from = from; to = to }) else None

-- of the steps up to count, those from `first` on are the ones at which a part of this size has come so far
pub record IsFirstReach (target : ℤ) (size count first : ℕ) : Type 0 where
  pub within : first ≤ count + 1
  pub reach : (k : ℕ) → k ≤ count → nat_le first k ≡ int_le target (pos (size * k / count))

-- of the steps up to count, those in the window are the ones at which the moved span overlaps the other
pub record IsOverlapWindow (s other : Span) (part : ℤ) (count : ℕ) (window : Window) : Type 0 where
  pub within : window.to ≤ count + 1
  pub inside : (k : ℕ) → k ≤ count
      → overlaps_on (s.lo +ℤ part_at count k part) (s.hi +ℤ part_at count k part) other.lo other.hi
      ≡ (nat_le window.from k && nat_lt k window.to)
