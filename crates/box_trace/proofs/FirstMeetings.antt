-- What a body meets first of two lists of solids.
use Rattle.std.proofs.Common.{◌≡◌, ℕ, ◌+◌, ◌-◌, ◌<◌, ◌≤◌, Bool, true, false, cond, ◌||◌, nat_lt, List, [], ◌∷◌, ◌++◌, length, take, get_or, length-take, Option, Some, None, option_map, position, find, refl, sym, ap, ◌∙◌, arith, subst}
use Rattle.std.proofs.lemmas.Bool.{ltb-true, ltb-false}
use Rattle.std.proofs.lemmas.Grind.{take_at_read}
use Rattle.std.proofs.lemmas.List.Folds.{list_any-append}
use Rattle.arena_geo.specs.declared.vec3.Vec3.{Vec3}
use Rattle.arena_geo.specs.Bounds.{Bounds}
use Rattle.arena_geo.specs.Boxes.{overlaps, is_blocked}
use Rattle.box_trace.specs.declared.meeting.Meeting.{Meeting}
use Rattle.box_trace.specs.Steps.{step_count, body_at}
use Rattle.box_trace.specs.Traces.{IsFree}
use Rattle.box_trace.specs.Meetings.{OverlapsFirst, IsMeetingWith, MeetsAt, MeetsFirst, IsFirstMeeting, after, earlier}
use Rattle.box_trace.proofs.Firsts.{position-append_front, position-append_back, find-append_front, find-append_back}

pub MeetsAt-front : (k : ℕ) (body : Bounds) (xs ys : List Bounds) (m : Meeting) → MeetsAt k body xs m
    → MeetsAt k body (xs ++ ys) m
MeetsAt-front k body xs ys m meets = record {
  step = meets.step;
  block = position-append_front (overlaps body) xs ys m.block meets.block;
  solid = find-append_front (overlaps body) xs ys m.solid meets.solid;
}

pub MeetsAt-back : (k : ℕ) (body : Bounds) (xs ys : List Bounds) (m : Meeting) → is_blocked body xs ≡ false
    → MeetsAt k body ys m → MeetsAt k body (xs ++ ys) (after (length xs) m)
MeetsAt-back k body xs ys m free meets = record {
  step = meets.step;
  block = position-append_back (overlaps body) xs ys m.block free meets.block;
  solid = find-append_back (overlaps body) xs ys m.solid free meets.solid;
}

neither_blocks : (body : Bounds) (xs ys : List Bounds) → is_blocked body xs ≡ false → is_blocked body ys ≡ false
    → is_blocked body (xs ++ ys) ≡ false
neither_blocks body xs ys p q = rw list_any-append (rw (p, q) refl)

-- free of both lists up to the lower of two steps
IsFree-append : (body : Bounds) (d : Vec3) (xs ys : List Bounds) (j k n : ℕ) → n ≤ j → n ≤ k → IsFree body d xs j
    → IsFree body d ys k → IsFree body d (xs ++ ys) n
IsFree-append body d xs ys j k n in_j in_k p q = record {
  free = λ i one within. neither_blocks (body_at body d i) xs ys (p.free i one (omega arith)) (q.free i one (omega arith));
}

-- a meeting in the former list, at a step up to which the latter is free
meets_front : (body : Bounds) (d : Vec3) (xs ys : List Bounds) (m : Meeting) (k : ℕ) → m.step - 1 ≤ k
    → MeetsFirst body d xs m → IsFree body d ys k → MeetsFirst body d (xs ++ ys) m
meets_front body d xs ys m k before meets free = record {
  on_way = meets.on_way;
  free = IsFree-append body d xs ys (m.step - 1) k (m.step - 1) (omega arith) before meets.free free;
  meets = MeetsAt-front m.step (body_at body d m.step) xs ys m meets.meets;
}

-- a meeting in the latter list, at a step at which the former is still free
meets_back : (body : Bounds) (d : Vec3) (xs ys : List Bounds) (m : Meeting) (k : ℕ) → m.step ≤ k → IsFree body d xs k
    → MeetsFirst body d ys m → MeetsFirst body d (xs ++ ys) (after (length xs) m)
meets_back body d xs ys m k before free meets = record {
  on_way = record { from = meets.on_way.from; within = meets.on_way.within };
  free = IsFree-append body d xs ys k (m.step - 1) (m.step - 1) (omega arith) (omega arith) free meets.free;
  meets = MeetsAt-back m.step (body_at body d m.step) xs ys m (free.free m.step meets.on_way.from before) meets.meets;
}

earlier_of_two : (body : Bounds) (d : Vec3) (xs ys : List Bounds) (a b : Meeting) (t : Bool) → nat_lt b.step a.step ≡ t
    → MeetsFirst body d xs a → MeetsFirst body d ys b
    → IsFirstMeeting body d (xs ++ ys) (cond t (Some (after (length xs) b)) (Some a))
earlier_of_two body d xs ys a b true lower p q =
    let below = ltb-true b.step a.step lower in meets_back body d xs ys b (a.step - 1) (omega arith) p.free q
earlier_of_two body d xs ys a b false not_lower p q =
    let above = ltb-false b.step a.step not_lower in meets_front body d xs ys a (b.step - 1) (omega arith) p q.free

-- what the body meets first of two lists is the earlier of what it meets first of each
pub earlier_is_first : (body : Bounds) (d : Vec3) (xs ys : List Bounds) (a b : Option Meeting)
    → IsFirstMeeting body d xs a → IsFirstMeeting body d ys b
    → IsFirstMeeting body d (xs ++ ys) (earlier a (option_map (after (length xs)) b))
earlier_is_first body d xs ys None None p q = IsFree-append body d xs ys (step_count d) (step_count d) (step_count d) (omega arith) (omega arith) p q
earlier_is_first body d xs ys None (Some b) p q = meets_back body d xs ys b (step_count d) q.on_way.within p q
earlier_is_first body d xs ys (Some a) None p q = let on = p.on_way in meets_front body d xs ys a (step_count d) (omega arith) p q
earlier_is_first body d xs ys (Some a) (Some b) p q = earlier_of_two body d xs ys a b (nat_lt b.step a.step) refl p q

-- where it meets nothing of the latter list, it is what it meets first of the former
pub first_is_of_front : (body : Bounds) (d : Vec3) (xs ys : List Bounds) (first : Option Meeting)
    → IsFirstMeeting body d xs first → IsFirstMeeting body d ys None → IsFirstMeeting body d (xs ++ ys) first
first_is_of_front body d xs ys None p q = earlier_is_first body d xs ys None None p q
first_is_of_front body d xs ys (Some a) p q = earlier_is_first body d xs ys (Some a) None p q

or_false : (b : Bool) → b ≡ false → (b || false) ≡ false
or_false true h = cc
or_false false h = refl

first_of_one : (p : Bounds → Bool) (x : Bounds) → p x ≡ true → position p (x ∷ []) ≡ Some 0
first_of_one p x pass = rw pass refl

found_of_one : (p : Bounds → Bool) (x : Bounds) → p x ≡ true → find p (x ∷ []) ≡ Some x
found_of_one p x pass = rw pass refl

-- what the body meets of one solid alone
meeting_with_one : (body : Bounds) (d : Vec3) (solid : Bounds) (step : ℕ) → OverlapsFirst body d solid step
    → MeetsFirst body d (solid ∷ []) (record { step = step; block = 0; solid = solid })
meeting_with_one body d solid k first = record {
  on_way = record { from = first.from; within = first.within };
  free = record { free = λ i one within. or_false (overlaps (body_at body d i) solid) (first.before i one (omega arith)) };
  meets = record {
    step = refl;
    block = first_of_one (overlaps (body_at body d k)) solid first.overlap;
    solid = found_of_one (overlaps (body_at body d k)) solid first.overlap;
  };
}

same_meeting : (m : Meeting) (n : ℕ) (solid : Bounds) → m.block ≡ n → m.solid ≡ solid
    → after n (record { step = m.step; block = 0; solid = solid }) ≡ m
same_meeting m n solid block_is solid_is =
    let block : n + 0 ≡ m.block = omega arith in
    let back = sym solid_is in
    λ i. record { step = m.step; block = block i; solid = back i }

-- one more solid at the end of the list
earlier_with_one : (body : Bounds) (d : Vec3) (xs : List Bounds) (solid : Bounds) (first next : Option Meeting)
    → IsFirstMeeting body d xs first → IsMeetingWith body d solid (length xs) next
    → IsFirstMeeting body d (xs ++ solid ∷ []) (earlier first next)
earlier_with_one body d xs solid first None p apart =
    earlier_is_first body d xs (solid ∷ []) first None p (record { free = λ i one within. or_false (overlaps (body_at body d i) solid) (apart.apart i one within) })
earlier_with_one body d xs solid first (Some m) p meets =
    let P : Meeting → Type 0 = λ n. IsFirstMeeting body d (xs ++ solid ∷ []) (earlier first (Some n)) in
    subst P (same_meeting m (length xs) solid meets.block meets.solid) (earlier_is_first body d xs (solid ∷ []) first (Some (record { step = m.step; block = 0; solid = solid })) p (meeting_with_one body d solid m.step meets.overlap))

-- one more solid of the list
pub earlier_with_next : (body : Bounds) (d : Vec3) (solids : List Bounds) (i : ℕ) (solid : Bounds) (first next : Option Meeting)
    → i < length solids → solid ≡ get_or solids i solid → IsFirstMeeting body d (take i solids) first
    → IsMeetingWith body d solid i next → IsFirstMeeting body d (take (i + 1) solids) (earlier first next)
earlier_with_next body d solids i solid first next within solid_is p q =
    let so_far : i ≡ length (take i solids) = omega (arith, length-take {A = Bounds}) in
    let P : ℕ → Type 0 = λ n. IsMeetingWith body d solid n next in
    let more : take (i + 1) solids ≡ take i solids ++ solid ∷ [] = (take_at_read solids i solid within).1 ∙ ap (λ (x : Bounds). take i solids ++ x ∷ []) (sym solid_is) in
    let Q : List Bounds → Type 0 = λ xs. IsFirstMeeting body d xs (earlier first next) in
    subst Q (sym more) (earlier_with_one body d (take i solids) solid first next p (subst P so_far q))

-- one more step is free
pub IsFree-more : (body : Bounds) (d : Vec3) (solids : List Bounds) (k : ℕ) → IsFree body d solids k
    → is_blocked (body_at body d (k + 1)) solids ≡ false → IsFree body d solids (k + 1)
IsFree-more body d solids k free next = record {
  free = λ i one within. by_place i one within (nat_lt i (k + 1)) refl;
} where
  by_place : (i : ℕ) → 1 ≤ i → i ≤ k + 1 → (t : Bool) → nat_lt i (k + 1) ≡ t
      → is_blocked (body_at body d i) solids ≡ false
  by_place i one within true lower = let below = ltb-true i (k + 1) lower in free.free i one (omega arith)
  by_place i one within false not_lower =
      let above = ltb-false i (k + 1) not_lower in
      let P : ℕ → Type 0 = λ j. is_blocked (body_at body d j) solids ≡ false in
      let same : k + 1 ≡ i = omega arith in subst P same next
