-- The first step at which a body overlaps a solid, out of the windows of the three axes.
use Rattle.std.proofs.Common.{◌≡◌, ℕ, ℤ, ◌+◌, ◌<◌, ◌≤◌, min, max, Bool, true, false, cond, ◌&&◌, nat_le, nat_lt, Some, None, refl, sym, ap, ◌∙◌, arith, subst, to_z, of_z, unsigned_abs}
use Rattle.std.specs.Int.{w32}
use Rattle.std.proofs.lemmas.Int.{to_z-of_z, fits_signed_from_abs}
use Rattle.std.proofs.lemmas.Bool.{ltb-true, ltb-false, le-leb, lt-ltb, lt-leb}
use Rattle.std.proofs.lemmas.Bool.Decides.{nat_tests}
use Rattle.std.specs.Cmp.Derive.{both_true}
use Rattle.arena_geo.specs.declared.vec3.Vec3.{Vec3}
use Rattle.arena_geo.specs.Bounds.{Bounds}
use Rattle.arena_geo.specs.Boxes.{overlaps_on}
use Rattle.box_trace.specs.declared.span.Span.{Span}
use Rattle.box_trace.specs.declared.window.Window.{Window}
use Rattle.box_trace.specs.Steps.{step_count, body_at}
use Rattle.box_trace.specs.Windows.{IsOverlapWindow, span, meet}
use Rattle.box_trace.specs.Meetings.{OverlapsFirst, IsApart}

-- whether a step lies in a window
abbrev pub in_window : Window → ℕ → Bool
in_window w k = nat_le w.from k && nat_lt k w.to

-- a window holds the steps from 1 to n that pass a test
pub record Holds (test : ℕ → Bool) (n : ℕ) (w : Window) : Type 0 where
  pub from : 1 ≤ w.from
  pub to : w.to ≤ n + 1
  pub each : (k : ℕ) → 1 ≤ k → k ≤ n → test k ≡ in_window w k

-- the window of one axis
pub record IsWindow (test : ℕ → Bool) (n : ℕ) (w : Window) : Type 0 where
  pub each : (k : ℕ) → k ≤ n → test k ≡ in_window w k

-- no step from 1 to n passes
pub record NonePass (test : ℕ → Bool) (n : ℕ) : Type 0 where
  pub each : (k : ℕ) → 1 ≤ k → k ≤ n → test k ≡ false

some_if : (t : Bool) (v w : Window) → cond t (Some v) None ≡ Some w → (t ≡ true) × (v ≡ w)
some_if true v w h = (refl, cc)
some_if false v w h = cc

none_if : (t : Bool) (v : Window) → cond t (Some v) None ≡ None → t ≡ false
none_if true v h = cc
none_if false v h = refl

common : Window → Window → Window
common a b = record { from = max a.from b.from; to = min a.to b.to }

in_window-common : (a b : Window) (k : ℕ) → (in_window a k && in_window b k) ≡ in_window (common a b) k
unfolding common
in_window-common a b k = grind (arith, nat_tests)

outside_empty : (w : Window) (k : ℕ) → w.to ≤ w.from → in_window w k ≡ false
outside_empty w k empty = grind (arith, nat_tests)

in_window-from : (w : Window) → w.from < w.to → in_window w w.from ≡ true
in_window-from w some = both_true (le-leb w.from w.from (omega arith)) (lt-ltb w.from w.to some)

in_window-before : (w : Window) (k : ℕ) → k < w.from → in_window w k ≡ false
in_window-before w k before = ap (λ (t : Bool). t && nat_lt k w.to) (lt-leb w.from k before)

-- the steps that pass both tests, and a first one of them
pub record MeetsIn (test : ℕ → Bool) (n : ℕ) (w : Window) : Type 0 where
  pub holds : Holds test n w
  pub some : w.from < w.to

pub meet-Some : (t u : ℕ → Bool) (n : ℕ) (a b w : Window) → Holds t n a → IsWindow u n b → meet a b ≡ Some w
    → MeetsIn (λ k. t k && u k) n w
unfolding common
meet-Some t u n a b w p q met =
    let s = some_if (nat_lt (max a.from b.from) (min a.to b.to)) (common a b) w met in
    let some = ltb-true (max a.from b.from) (min a.to b.to) s.0 in
    let start = p.from in
    let stop = p.to in
    let P : Window → Type 0 = λ v. MeetsIn (λ k. t k && u k) n v in
    subst P s.1 (record {
      holds = record {
        from = omega arith;
        to = omega arith;
        each = λ k one within. (λ i. p.each k one within i && q.each k within i) ∙ in_window-common a b k;
      };
      some = some;
    })

pub meet-None : (t u : ℕ → Bool) (n : ℕ) (a b : Window) → Holds t n a → IsWindow u n b → meet a b ≡ None
    → NonePass (λ k. t k && u k) n
unfolding common
meet-None t u n a b p q met =
    let none = ltb-false (max a.from b.from) (min a.to b.to) (none_if (nat_lt (max a.from b.from) (min a.to b.to)) (common a b) met) in
    record { each = λ k one within. (λ i. p.each k one within i && q.each k within i) ∙ in_window-common a b k ∙ outside_empty (common a b) k none }

-- all steps from 1 to n
pub all_steps : (count n : ℕ) → count ≡ n → Holds (λ _. true) n (record { from = 1; to = count + 1 })
all_steps count n count_is = record {
  from = omega arith;
  to = omega arith;
  each = λ k one within. sym (both_true (le-leb 1 k one) (lt-ltb k (count + 1) (omega arith)));
}

-- ---- the axes of a body and a solid
abbrev pub on_x : Bounds → Vec3 → Bounds → ℕ → Bool
on_x body d solid k = let b = body_at body d k in overlaps_on b.lo.x b.hi.x solid.lo.x solid.hi.x

abbrev pub on_y : Bounds → Vec3 → Bounds → ℕ → Bool
on_y body d solid k = let b = body_at body d k in overlaps_on b.lo.y b.hi.y solid.lo.y solid.hi.y

abbrev pub on_z : Bounds → Vec3 → Bounds → ℕ → Bool
on_z body d solid k = let b = body_at body d k in overlaps_on b.lo.z b.hi.z solid.lo.z solid.hi.z

-- a window, where the code's spans, part and count are these
IsOverlapWindow-at : (s other t u : Span) (code_part part : ℤ) (m n : ℕ) (w : Window) → s ≡ t → other ≡ u
    → code_part ≡ to_z w32 (of_z w32 part) → unsigned_abs part ≤ 65536 → m ≡ n → IsOverlapWindow s other code_part m w
    → IsOverlapWindow t u part n w
IsOverlapWindow-at s other t u code_part part m n w s_is other_is part_is near count_is is =
    let same : code_part ≡ part = part_is ∙ to_z-of_z w32 part (fits_signed_from_abs w32 part (omega arith)) in
    rw (s_is, other_is, same, count_is) at is

pub window_x : (body : Bounds) (d : Vec3) (solid : Bounds) (s other : Span) (part : ℤ) (m : ℕ) (w : Window)
    → s ≡ span body.lo.x body.hi.x → other ≡ span solid.lo.x solid.hi.x → part ≡ to_z w32 (of_z w32 d.x)
    → unsigned_abs d.x ≤ 65536 → m ≡ step_count d → IsOverlapWindow s other part m w
    → IsWindow (on_x body d solid) (step_count d) w
window_x body d solid s other part m w s_is other_is part_is near count_is is = record {
  each = (IsOverlapWindow-at s other _ _ part d.x m _ w s_is other_is part_is near count_is is).inside;
}

pub window_y : (body : Bounds) (d : Vec3) (solid : Bounds) (s other : Span) (part : ℤ) (m : ℕ) (w : Window)
    → s ≡ span body.lo.y body.hi.y → other ≡ span solid.lo.y solid.hi.y → part ≡ to_z w32 (of_z w32 d.y)
    → unsigned_abs d.y ≤ 65536 → m ≡ step_count d → IsOverlapWindow s other part m w
    → IsWindow (on_y body d solid) (step_count d) w
window_y body d solid s other part m w s_is other_is part_is near count_is is = record {
  each = (IsOverlapWindow-at s other _ _ part d.y m _ w s_is other_is part_is near count_is is).inside;
}

pub window_z : (body : Bounds) (d : Vec3) (solid : Bounds) (s other : Span) (part : ℤ) (m : ℕ) (w : Window)
    → s ≡ span body.lo.z body.hi.z → other ≡ span solid.lo.z solid.hi.z → part ≡ to_z w32 (of_z w32 d.z)
    → unsigned_abs d.z ≤ 65536 → m ≡ step_count d → IsOverlapWindow s other part m w
    → IsWindow (on_z body d solid) (step_count d) w
window_z body d solid s other part m w s_is other_is part_is near count_is is = record {
  each = (IsOverlapWindow-at s other _ _ part d.z m _ w s_is other_is part_is near count_is is).inside;
}

and_assoc : (a b c : Bool) → (a && b && c) ≡ ((a && b) && c)
and_assoc true b c = refl
and_assoc false b c = refl

apart_on_two : (a b c : Bool) → (a && b) ≡ false → (a && b && c) ≡ false
apart_on_two true b c h = ap (λ (t : Bool). t && c) h
apart_on_two false b c h = refl

-- apart at every step on x, on x and y, on all three
pub apart_on_x : (body : Bounds) (d : Vec3) (solid : Bounds)
    → NonePass (λ k. true && on_x body d solid k) (step_count d) → IsApart body d solid
apart_on_x body d solid none = record {
  apart = λ k one within. ap (λ (t : Bool). t && on_y body d solid k && on_z body d solid k) (none.each k one within);
}

pub apart_on_xy : (body : Bounds) (d : Vec3) (solid : Bounds)
    → NonePass (λ k. (true && on_x body d solid k) && on_y body d solid k) (step_count d) → IsApart body d solid
apart_on_xy body d solid none = record {
  apart = λ k one within. apart_on_two (on_x body d solid k) (on_y body d solid k) (on_z body d solid k) (none.each k one within);
}

pub apart_on_xyz : (body : Bounds) (d : Vec3) (solid : Bounds)
    → NonePass (λ k. ((true && on_x body d solid k) && on_y body d solid k) && on_z body d solid k) (step_count d)
    → IsApart body d solid
apart_on_xyz body d solid none = record {
  apart = λ k one within. and_assoc (on_x body d solid k) (on_y body d solid k) (on_z body d solid k) ∙ none.each k one within;
}

-- the first step of the windows that meet
pub first_overlap_is : (body : Bounds) (d : Vec3) (solid : Bounds) (w : Window)
    → MeetsIn (λ k. ((true && on_x body d solid k) && on_y body d solid k) && on_z body d solid k) (step_count d) w
    → OverlapsFirst body d solid w.from
first_overlap_is body d solid w meets =
    let start = meets.holds.from in
    let stop = meets.holds.to in
    let some = meets.some in
    let assoc = λ (k : ℕ). and_assoc (on_x body d solid k) (on_y body d solid k) (on_z body d solid k) in
    let within : w.from ≤ step_count d = omega arith in
    record {
      from = start;
      within = within;
      overlap = assoc w.from ∙ meets.holds.each w.from start within ∙ in_window-from w some;
      before = λ k one below. assoc k ∙ meets.holds.each k one (omega arith) ∙ in_window-before w k below;
    }
