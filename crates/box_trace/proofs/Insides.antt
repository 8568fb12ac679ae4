-- A body inside the arena stays inside over solids that have the arena's walls.
use Rattle.std.proofs.Common.{◌≡◌, ℕ, zero, suc, ◌+◌, ◌*◌, ◌/◌, ◌<◌, ◌≤◌, Bool, true, false, ◌&&◌, ◌||◌, List, [], ◌∷◌, ℤ, pos, negsuc, ◌+ℤ◌, ◌-ℤ◌, ◌*ℤ◌, ◌≤ℤ◌, int_le, unsigned_abs, refl, sym, arith, subst}
use Rattle.std.proofs.Math.Nat.{zero-div, lt-div-mul-add, div-mul-le_self, mul-suc}
use Rattle.std.proofs.lemmas.Nat.{div_below, le-div}
use Rattle.std.proofs.lemmas.Int.{ints}
use Rattle.std.proofs.lemmas.Bool.{both_ways, or_parts}
use Rattle.arena_geo.specs.declared.vec3.Vec3.{Vec3}
use Rattle.arena_geo.specs.Bounds.{Bounds, bounds, IsOrdered}
use Rattle.arena_geo.specs.Boxes.{overlaps_on, overlaps, contains_on, contains, is_blocked}
use Rattle.arena_geo.proofs.Containment.{three_pass, all_three}
use Rattle.box_trace.specs.Steps.{step_count, part_at, body_at}
use Rattle.box_trace.specs.Traces.{IsFree, trace_of}
use Rattle.box_trace.specs.Walls.{low, high, with_x, with_y, with_z, walls_of, HaveWalls}
use Rattle.box_trace.specs.Laws.{WallsLeaveInsideFree, TraceStaysInside}
use Rattle.box_trace.proofs.Parts.{part_at-neg}
use Rattle.box_trace.proofs.Traces.{IsTrace-trace_of}

-- ---- from one step to the next
-- the numbers differ by at most 1
record IsNext (a b : ℤ) : Type 0 where
  pub up : b ≤ℤ (a +ℤ pos 1)
  pub down : a ≤ℤ (b +ℤ pos 1)

share_grows : (a k n : ℕ) → 0 < n → a * k / n ≤ a * suc k / n
share_grows a k n some =
    le-div (a * k / n) (a * suc k) n some (omega (arith, mul-suc a k, div-mul-le_self (a * k) n))

two_more : (q n : ℕ) → (q + 2) * n ≡ q * n + n + n
two_more q n = omega arith

share_grows_by_one : (a k n : ℕ) → 0 < n → a ≤ n → a * suc k / n ≤ a * k / n + 1
share_grows_by_one a k n some within =
    let below : a * k < a * k / n * n + n = lt-div-mul-add some in
    let less : a * suc k / n < a * k / n + 2 = div_below (a * suc k) n (a * k / n + 2) some (omega (arith, mul-suc a k, two_more (a * k / n) n)) in
    omega arith

part_at-next : (n k : ℕ) (d : ℤ) → unsigned_abs d ≤ n → suc k ≤ n → IsNext (part_at n k d) (part_at n (suc k) d)
part_at-next n k (pos a) small within =
    let grows = share_grows a k n (omega arith) in
    let by_one = share_grows_by_one a k n (omega arith) small in
    record { up = omega (arith, ints); down = omega (arith, ints) }
part_at-next n k (negsuc a) small within =
    let grows = share_grows (suc a) k n (omega arith) in
    let by_one = share_grows_by_one (suc a) k n (omega arith) small in
    record { up = rw (part_at-neg n k a, part_at-neg n (suc k) a) (omega (arith, ints)); down = rw (part_at-neg n k a, part_at-neg n (suc k) a) (omega (arith, ints)) }

pub times_zero : (a : ℤ) → a *ℤ pos 0 ≡ pos 0
times_zero a = omega (arith, ints)

pub part_at-zero : (n : ℕ) (d : ℤ) → part_at n 0 d ≡ pos 0
part_at-zero n d = rw times_zero (rw zero-div refl)

stays_at : (a n : ℤ) → n ≡ pos 0 → a +ℤ n ≡ a
stays_at a n none = omega (arith, ints)

-- at step 0 the body is where it was
pub body_at-zero : (body : Bounds) (d : Vec3) → body_at body d 0 ≡ body
body_at-zero body d =
    let n = step_count d in
    λ i. record {
      lo = record {
        x = stays_at body.lo.x _ (part_at-zero n d.x) i;
        y = stays_at body.lo.y _ (part_at-zero n d.y) i;
        z = stays_at body.lo.z _ (part_at-zero n d.z) i;
      };
      hi = record {
        x = stays_at body.hi.x _ (part_at-zero n d.x) i;
        y = stays_at body.hi.y _ (part_at-zero n d.y) i;
        z = stays_at body.hi.z _ (part_at-zero n d.z) i;
      };
    }

-- ---- spans
-- the second span leaves the first by at most 1 on either side
record IsClose (lo hi l h : ℤ) : Type 0 where
  pub low : lo ≤ℤ (l +ℤ pos 1)
  pub high : h ≤ℤ (hi +ℤ pos 1)
  pub ordered : l ≤ℤ h

inside_then_close : (lo hi l h from to : ℤ) → contains_on lo hi (l +ℤ from) (h +ℤ from) ≡ true → l ≤ℤ h → IsNext from to
    → IsClose lo hi (l +ℤ to) (h +ℤ to)
inside_then_close lo hi l h from to inside ordered next = record {
  low = grind (arith, ints);
  high = grind (arith, ints);
  ordered = omega (arith, ints);
}

-- it overlaps what reaches beyond the first on both sides
overlaps_across : (lo hi l h : ℤ) → IsClose lo hi l h → overlaps_on l h (lo -ℤ pos 16384) (hi +ℤ pos 16384) ≡ true
overlaps_across lo hi l h close = grind (arith, ints)

-- where it overlaps neither what lies below the first nor what lies above, it lies inside
inside_low : (lo hi l h : ℤ) → IsClose lo hi l h → overlaps_on l h (lo -ℤ pos 16384) lo ≡ false → int_le lo l ≡ true
inside_low lo hi l h close apart = grind (arith, ints)

inside_high : (lo hi l h : ℤ) → IsClose lo hi l h → overlaps_on l h hi (hi +ℤ pos 16384) ≡ false → int_le h hi ≡ true
inside_high lo hi l h close apart = grind (arith, ints)

both : {a b : Bool} → a ≡ true → b ≡ true → (a && b) ≡ true
both p q = λ i. p i && q i

first_fails : (a b c : Bool) → b ≡ true → c ≡ true → (a && b && c) ≡ false → a ≡ false
first_fails true b c p q h = absurd (both_ways _ h (all_three refl p q))
first_fails false b c p q h = refl

second_fails : (a b c : Bool) → a ≡ true → c ≡ true → (a && b && c) ≡ false → b ≡ false
second_fails a true c p q h = absurd (both_ways _ h (all_three p refl q))
second_fails a false c p q h = refl

third_fails : (a b c : Bool) → a ≡ true → b ≡ true → (a && b && c) ≡ false → c ≡ false
third_fails a b true p q h = absurd (both_ways _ h (all_three p q refl))
third_fails a b false p q h = refl

-- ---- boxes
-- the body leaves the arena by at most 1 on each side
record IsCloseTo (arena b : Bounds) : Type 0 where
  pub x : IsClose arena.lo.x arena.hi.x b.lo.x b.hi.x
  pub y : IsClose arena.lo.y arena.hi.y b.lo.y b.hi.y
  pub z : IsClose arena.lo.z arena.hi.z b.lo.z b.hi.z

-- the six tests fail
record SixFail (a b c d e f : Bool) : Type 0 where
  pub low_x : a ≡ false
  pub high_x : b ≡ false
  pub low_y : c ≡ false
  pub high_y : d ≡ false
  pub low_z : e ≡ false
  pub high_z : f ≡ false

six_fail : (a b c d e f : Bool) → (a || (b || (c || (d || (e || (f || false)))))) ≡ false → SixFail a b c d e f
six_fail a b c d e f h0 =
    let p = or_parts a _ h0 in
    let q = or_parts b _ p.1 in
    let r = or_parts c _ q.1 in
    let s = or_parts d _ r.1 in
    let t = or_parts e _ s.1 in
    let u = or_parts f _ t.1 in
    record { low_x = p.0; high_x = q.0; low_y = r.0; high_y = s.0; low_z = t.0; high_z = u.0 }

-- a body close to the arena that none of its walls blocks lies inside
inside_of_walls : (arena b : Bounds) → IsCloseTo arena b → is_blocked b (walls_of arena) ≡ false
    → contains arena b ≡ true
inside_of_walls arena b close free =
    let fail = six_fail _ _ _ _ _ _ free in
    let x = overlaps_across _ _ _ _ close.x in
    let y = overlaps_across _ _ _ _ close.y in
    let z = overlaps_across _ _ _ _ close.z in
    all_three
    (both (inside_low _ _ _ _ close.x (first_fails _ _ _ y z fail.low_x)) (inside_high _ _ _ _ close.x (first_fails _ _ _ y z fail.high_x)))
    (both (inside_low _ _ _ _ close.y (second_fails _ _ _ x z fail.low_y)) (inside_high _ _ _ _ close.y (second_fails _ _ _ x z fail.high_y)))
    (both (inside_low _ _ _ _ close.z (third_fails _ _ _ x y fail.low_z)) (inside_high _ _ _ _ close.z (third_fails _ _ _ x y fail.high_z)))

-- ---- the walls block nothing inside
apart_from_low : (lo hi l h : ℤ) → contains_on lo hi l h ≡ true → overlaps_on l h (lo -ℤ pos 16384) lo ≡ false
apart_from_low lo hi l h contained = grind (arith, ints)

apart_from_high : (lo hi l h : ℤ) → contains_on lo hi l h ≡ true → overlaps_on l h hi (hi +ℤ pos 16384) ≡ false
apart_from_high lo hi l h contained = grind (arith, ints)

-- boxes that are apart on an axis don't overlap
apart_on_x : (b wall : Bounds) → overlaps_on b.lo.x b.hi.x wall.lo.x wall.hi.x ≡ false → overlaps b wall ≡ false
apart_on_x b wall h = rw h refl

apart_on_y : (b wall : Bounds) → overlaps_on b.lo.y b.hi.y wall.lo.y wall.hi.y ≡ false → overlaps b wall ≡ false
apart_on_y b wall h = by_first (overlaps_on b.lo.x b.hi.x wall.lo.x wall.hi.x) where
  by_first : (x : Bool)
      → (x && overlaps_on b.lo.y b.hi.y wall.lo.y wall.hi.y && overlaps_on b.lo.z b.hi.z wall.lo.z wall.hi.z) ≡ false
  by_first true = rw h refl
  by_first false = refl

apart_on_z : (b wall : Bounds) → overlaps_on b.lo.z b.hi.z wall.lo.z wall.hi.z ≡ false → overlaps b wall ≡ false
apart_on_z b wall h = by_others (overlaps_on b.lo.x b.hi.x wall.lo.x wall.hi.x) (overlaps_on b.lo.y b.hi.y wall.lo.y wall.hi.y) where
  by_others : (x y : Bool) → (x && y && overlaps_on b.lo.z b.hi.z wall.lo.z wall.hi.z) ≡ false
  by_others true true = h
  by_others true false = refl
  by_others false y = refl

none_of_six : (b p q r s t u : Bounds) → overlaps b p ≡ false → overlaps b q ≡ false → overlaps b r ≡ false
    → overlaps b s ≡ false → overlaps b t ≡ false → overlaps b u ≡ false → is_blocked b (p ∷ q ∷ r ∷ s ∷ t ∷ u ∷ []) ≡ false
none_of_six b p q r s t u one two three four five six = rw (one, two, three, four, five, six) refl

pub walls_leave_inside_free : WallsLeaveInsideFree
walls_leave_inside_free arena b inside =
    let within = three_pass _ _ _ inside in
    let low_x = bounds (low arena) (with_x (high arena) arena.lo) in
    let high_x = bounds (with_x (low arena) arena.hi) (high arena) in
    let low_y = bounds (low arena) (with_y (high arena) arena.lo) in
    let high_y = bounds (with_y (low arena) arena.hi) (high arena) in
    let low_z = bounds (low arena) (with_z (high arena) arena.lo) in
    let high_z = bounds (with_z (low arena) arena.hi) (high arena) in
    none_of_six b low_x high_x low_y high_y low_z high_z
    (apart_on_x b low_x (apart_from_low arena.lo.x arena.hi.x b.lo.x b.hi.x within.x))
    (apart_on_x b high_x (apart_from_high arena.lo.x arena.hi.x b.lo.x b.hi.x within.x))
    (apart_on_y b low_y (apart_from_low arena.lo.y arena.hi.y b.lo.y b.hi.y within.y))
    (apart_on_y b high_y (apart_from_high arena.lo.y arena.hi.y b.lo.y b.hi.y within.y))
    (apart_on_z b low_z (apart_from_low arena.lo.z arena.hi.z b.lo.z b.hi.z within.z))
    (apart_on_z b high_z (apart_from_high arena.lo.z arena.hi.z b.lo.z b.hi.z within.z))

-- a body that is inside at a step is close at the next one
close_after : (arena body : Bounds) (d : Vec3) (k : ℕ) → IsOrdered body → suc k ≤ step_count d
    → contains arena (body_at body d k) ≡ true → IsCloseTo arena (body_at body d (suc k))
close_after arena body d k ordered within inside =
    let n = step_count d in
    let t = three_pass _ _ _ inside in
    record {
      x = inside_then_close _ _ body.lo.x body.hi.x _ _ t.x ordered.x (part_at-next n k d.x (omega arith) within);
      y = inside_then_close _ _ body.lo.y body.hi.y _ _ t.y ordered.y (part_at-next n k d.y (omega arith) within);
      z = inside_then_close _ _ body.lo.z body.hi.z _ _ t.z ordered.z (part_at-next n k d.z (omega arith) within);
    }

not_blocked : (arena b : Bounds) (solids : List Bounds) → HaveWalls arena solids → is_blocked b solids ≡ false
    → (t : Bool) → is_blocked b (walls_of arena) ≡ t → is_blocked b (walls_of arena) ≡ false
not_blocked arena b solids have free true walled = absurd (both_ways _ free (have.blocked b walled))
not_blocked arena b solids have free false open_air = open_air

stays_inside : (arena body : Bounds) (d : Vec3) (solids : List Bounds) (steps : ℕ) → IsOrdered body
    → HaveWalls arena solids → contains arena body ≡ true → steps ≤ step_count d → IsFree body d solids steps → (k : ℕ)
    → k ≤ steps → contains arena (body_at body d k) ≡ true
stays_inside arena body d solids steps ordered have inside within free zero most =
    let P : Bounds → Type 0 = λ b. contains arena b ≡ true in
    subst P (sym (body_at-zero body d)) inside
stays_inside arena body d solids steps ordered have inside within free (suc k) most =
    let before = stays_inside arena body d solids steps ordered have inside within free k (omega arith) in
    let there = body_at body d (suc k) in
    inside_of_walls arena there
    (close_after arena body d k ordered (omega arith) before)
    (not_blocked arena there solids have (free.free (suc k) (omega arith) most) (is_blocked there (walls_of arena)) refl)

pub trace_stays_inside : TraceStaysInside
trace_stays_inside arena body d solids ordered have inside k within =
    let trace = IsTrace-trace_of body d solids in
    stays_inside arena body d solids (trace_of body d solids).steps ordered have inside trace.within trace.free k within
