-- What the step of a lift makes of its record.
use Rattle.std.proofs.Common.{◌≡◌, ◌≢◌, ◌⊎◌, ◌==◌, Bool, true, false, cond, ℤ, pos, ◌+ℤ◌, ◌-ℤ◌, ◌≤ℤ◌, int_lt, refl, sym, ap, ◌∙◌, inl, inr, arith, int_eq}
use Rattle.std.specs.Int.{int_min, int_max}
use Rattle.std.proofs.lemmas.Bool.Decides.{nat_tests, Decides-int_eq}
use Rattle.std.proofs.lemmas.Bool.{cases_Bool}
use Rattle.std.proofs.lemmas.Int.{ints, clamps}
use Rattle.entity_recs.specs.declared.rec.Rec.{Rec}
use Rattle.arena_map.specs.declared.lift.Lift.{Lift}
use Rattle.world_physics.specs.LiftSteps.{height_of, next_height, next_state, IsHeight}
use Rattle.world_physics.specs.Laws.{StepsAreWhole}
use Rattle.world_physics.proofs.Ways.{way_is_height, next_is}

-- ---- heights

min_either : (a b : ℤ) → (int_min a b ≡ a) ⊎ (int_min a b ≡ b)
min_either a b = by (int_lt b a)
  where
    by : (t : Bool) → (cond t b a ≡ a) ⊎ (cond t b a ≡ b)
    by true = inr refl
    by false = inl refl

max_either : (a b : ℤ) → (int_max a b ≡ a) ⊎ (int_max a b ≡ b)
max_either a b = by (int_lt b a)
  where
    by : (t : Bool) → (cond t a b ≡ a) ⊎ (cond t a b ≡ b)
    by true = inl refl
    by false = inr refl

-- the height after a step, by the direction
record IsNextHeight (lift : Lift) (rising : Bool) (height next : ℤ) : Type 0 where
  least : (height -ℤ lift.speed) ≤ℤ next
  most : next ≤ℤ (height +ℤ lift.speed)
  rises : rising ≡ true → (next ≡ height +ℤ lift.speed) ⊎ (next ≡ lift.rise)
  falls : rising ≡ false → (next ≡ height -ℤ lift.speed) ⊎ (next ≡ pos 0)

next_height_is : (lift : Lift) (rising : Bool) (height : ℤ) → IsHeight lift height
    → IsNextHeight lift rising height (cond rising (int_min (height +ℤ lift.speed) lift.rise) (int_max (height -ℤ lift.speed) (pos 0)))
next_height_is lift true height is =
    let n = is.numbers in
    record {
      least = omega (arith, ints, clamps);
      most = omega (arith, ints, clamps);
      rises = λ h. min_either (height +ℤ lift.speed) lift.rise;
      falls = λ h. cc;
    }
next_height_is lift false height is =
    let n = is.numbers in
    record {
      least = omega (arith, ints, clamps);
      most = omega (arith, ints, clamps);
      rises = λ h. cc;
      falls = λ h. max_either (height -ℤ lift.speed) (pos 0);
    }

-- ---- places

least_place : (at low next speed : ℤ) → ((at -ℤ low) -ℤ speed) ≤ℤ next → (at -ℤ speed) ≤ℤ (at +ℤ (next -ℤ (at -ℤ low)))
least_place at low next speed h = omega (arith, ints)

most_place : (at low next speed : ℤ) → next ≤ℤ ((at -ℤ low) +ℤ speed) → (at +ℤ (next -ℤ (at -ℤ low))) ≤ℤ (at +ℤ speed)
most_place at low next speed h = omega (arith, ints)

low_place : (at low next : ℤ) → pos 0 ≤ℤ next → low ≤ℤ (at +ℤ (next -ℤ (at -ℤ low)))
low_place at low next least = omega (arith, ints)

high_place : (at low next rise : ℤ) → next ≤ℤ rise → (at +ℤ (next -ℤ (at -ℤ low))) ≤ℤ (low +ℤ rise)
high_place at low next rise most = omega (arith, ints)

risen_place : (at low next speed rise : ℤ) → (next ≡ (at -ℤ low) +ℤ speed) ⊎ (next ≡ rise)
    → (at +ℤ (next -ℤ (at -ℤ low)) ≡ at +ℤ speed) ⊎ (at +ℤ (next -ℤ (at -ℤ low)) ≡ low +ℤ rise)
risen_place at low next speed rise (inl h) = inl (omega (arith, ints))
risen_place at low next speed rise (inr h) = inr (omega (arith, ints))

fallen_place : (at low next speed : ℤ) → (next ≡ (at -ℤ low) -ℤ speed) ⊎ (next ≡ pos 0)
    → (at +ℤ (next -ℤ (at -ℤ low)) ≡ at -ℤ speed) ⊎ (at +ℤ (next -ℤ (at -ℤ low)) ≡ low)
fallen_place at low next speed (inl h) = inl (omega (arith, ints))
fallen_place at low next speed (inr h) = inr (omega (arith, ints))

-- the height at a place
height_at : (at low next there : ℤ) → at +ℤ (next -ℤ (at -ℤ low)) ≡ low +ℤ there → next ≡ there
height_at at low next there h = omega (arith, ints)

place_at : (at low next there : ℤ) → next ≡ there → at +ℤ (next -ℤ (at -ℤ low)) ≡ low +ℤ there
place_at at low next there h = omega (arith, ints)

lowest_at : (at low next : ℤ) → at +ℤ (next -ℤ (at -ℤ low)) ≡ low → next ≡ pos 0
lowest_at at low next h = omega (arith, ints)

at_lowest : (at low next : ℤ) → next ≡ pos 0 → at +ℤ (next -ℤ (at -ℤ low)) ≡ low
at_lowest at low next h = omega (arith, ints)

-- ---- directions

equal_test : (a b : ℤ) → a ≡ b → int_eq a b ≡ true
equal_test a b h = (Decides-int_eq a b).1 h

unequal_test : (a b : ℤ) → a ≢ b → int_eq a b ≡ false
unequal_test a b h = elim (cases_Bool (int_eq a b)) [ inl same ↦ absurd (h ((Decides-int_eq a b).0 same)) | inr other ↦ other ]

zero_height : (rise : ℤ) → pos 1 ≤ℤ rise → pos 0 ≢ rise
zero_height rise least same = omega (arith, ints)

highest_state : (lift : Lift) (r : Rec) → next_height lift r ≡ lift.rise → next_state lift r ≡ 1
highest_state lift r at = rw (equal_test (next_height lift r) lift.rise at) refl

lowest_state : (lift : Lift) (r : Rec) → pos 1 ≤ℤ lift.rise → next_height lift r ≡ pos 0 → next_state lift r ≡ 0
lowest_state lift r rise at =
    let other = unequal_test (next_height lift r) lift.rise (λ same. zero_height lift.rise rise (sym at ∙ same)) in
    let here = equal_test (next_height lift r) (pos 0) at in
    ap (λ b. cond b 1 (cond (int_eq (next_height lift r) (pos 0)) 0 r.state)) other ∙ ap (λ b. cond b 0 r.state) here

between_state : (lift : Lift) (r : Rec) → next_height lift r ≢ lift.rise → next_height lift r ≢ pos 0 → next_state lift r ≡ r.state
between_state lift r high low =
    ap (λ b. cond b 1 (cond (int_eq (next_height lift r) (pos 0)) 0 r.state)) (unequal_test (next_height lift r) lift.rise high)
    ∙ ap (λ b. cond b 0 r.state) (unequal_test (next_height lift r) (pos 0) low)

rising_is : (r : Rec) → r.state ≡ 0 → (r.state == 0) ≡ true
rising_is r h = grind (arith, nat_tests)

falling_is : (r : Rec) → r.state ≢ 0 → (r.state == 0) ≡ false
falling_is r h = grind (arith, nat_tests)

pub steps_are_whole : StepsAreWhole
steps_are_whole lift r on =
    let n = on.numbers in
    let next = next_height lift r in
    let within = (next_is lift r on).is in
    let moves = next_height_is lift (r.state == 0) (height_of lift r) (way_is_height lift r on) in
    record {
      way = record { numbers = n; low = low_place r.origin.z lift.low next within.least; high = high_place r.origin.z lift.low next lift.rise within.most };
      least = least_place r.origin.z lift.low next lift.speed moves.least;
      most = most_place r.origin.z lift.low next lift.speed moves.most;
      rises = λ h. risen_place r.origin.z lift.low next lift.speed lift.rise (moves.rises (rising_is r h));
      falls = λ h. fallen_place r.origin.z lift.low next lift.speed (moves.falls (falling_is r h));
      highest = λ h. highest_state lift r (height_at r.origin.z lift.low next lift.rise h);
      lowest = λ h. lowest_state lift r n.least_rise (lowest_at r.origin.z lift.low next h);
      between = λ high low.
          between_state lift r (λ e. high (place_at r.origin.z lift.low next lift.rise e)) (λ e. low (at_lowest r.origin.z lift.low next e));
      rest = refl;
    }
