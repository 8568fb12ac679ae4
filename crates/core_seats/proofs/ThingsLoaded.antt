-- The things of the map at the start, and their states as they were loaded.
use Rattle.std.proofs.Common.{◌≡◌, ◌≢◌, ℕ, zero, suc, ◌+◌, ◌-◌, ◌<◌, ◌≤◌, ◌==◌, Bool, true, false, ◌&&◌, List, [], ◌∷◌, ◌++◌, length, get_or, take, drop, map, append-nil, refl, ap, sym, ◌∙◌, subst, inl, inr, arith}
use Rattle.std.specs.Prelude.{filter, nat_le, Option, Some, All, if◌then◌else◌}
use Rattle.std.specs.List.{filter_map, cons_option, AllByRecursion}
use Rattle.std.specs.List.Sorted.{IsStrictlyIncreasing}
use Rattle.std.proofs.lemmas.Bool.{cases_Bool, cond-true, cond-false, eq-eqb, ne_eqb, leb-true}
use Rattle.std.proofs.lemmas.List.{length-map, length-drop, take_all, take_more, drop_more}
use Rattle.std.proofs.lemmas.List.Elements.{All-get_or, All-from_recursion, recursion_from_All, filter_map-append}
use Rattle.arena_geo.specs.Bounds.{Bounds}
use Rattle.arena_geo.specs.Boxes.{contains}
use Rattle.arena_geo.specs.Regions.{touches_region, is_inside}
use Rattle.entity_recs.specs.declared.limits.TheConstants.{IDS}
use Rattle.entity_recs.specs.declared.rec.Rec.{Rec}
use Rattle.entity_recs.specs.declared.effect.NewState.{NewState}
use Rattle.entity_recs.specs.Bodies.{abs_of}
use Rattle.entity_recs.specs.Records.{with_state, IsRecord}
use Rattle.core_steps.specs.Nodes.{Fixed}
use Rattle.core_steps.specs.Reads.{state_at, thing_of, things_in}
use Rattle.core_seats.specs.NearKept.{AreAtIds, AreThings, thing_with, records_touching, things_loaded}
use Rattle.entity_recs.specs.Actions.{Meaning, HasValidity}
use Rattle.entity_recs.proofs.Ids.{id_in}
use Rattle.entity_recs.proofs.Standing.{records_have_boxes}
use Rattle.core_steps.proofs.Exclusion.{inside_touches}
use Rattle.core_steps.specs.Stands.{IsStart}
use Rattle.std.proofs.Math.ListN.{get_or-map}
use Rattle.box_strips.specs.Strips.{StripsView}
use Rattle.core_seats.specs.ThingBits.{AreMarked}
use Rattle.core_seats.specs.ThingStrips.{MarksBoxes, AreThingBoxes, MarksThings, TouchesAll}
use Rattle.core_seats.specs.Shown.{RulesView, fixed_of, IsRuledWith}
use Rattle.core_seats.proofs.NearLists.{AreFound, found_at_ids}
use Rattle.core_seats.proofs.Around.{inside_through}
use Rattle.core_seats.proofs.KeptNear.{IsBelowAll, AreRising, are_rising}

-- ---- ids that rise

below_kept : (p : ℕ → Bool) (n : ℕ) (ids : List ℕ) → IsBelowAll n ids → IsBelowAll n (filter p ids)
below_kept p n [] below = tt
below_kept p n (id ∷ ids) below = by_test (p id) (below_kept p n ids below.1)
  where
    by_test : (b : Bool) → IsBelowAll n (filter p ids) → IsBelowAll n (if b then id ∷ filter p ids else filter p ids)
    by_test true rest = (below.0, rest)
    by_test false rest = rest

pub rising_kept : (p : ℕ → Bool) (ids : List ℕ) → AreRising ids → AreRising (filter p ids)
rising_kept p [] rising = tt
rising_kept p (id ∷ ids) rising = by_test (p id) (rising_kept p ids rising.1)
  where
    by_test : (b : Bool) → AreRising (filter p ids) → AreRising (if b then id ∷ filter p ids else filter p ids)
    by_test true rest = (below_kept p id ids rising.0, rest)
    by_test false rest = rest

-- so many numbers rise from one that the last is at least so much larger
abbrev AreBelow : ℕ → List ℕ → Type 0
AreBelow n [] = Unit {0}
AreBelow n (id ∷ ids) = (id < n) × AreBelow n ids

spread : (n s : ℕ) (ids : List ℕ) → IsBelowAll s ids → AreRising ids → AreBelow n ids → s < n → s + length ids < n
spread n s [] low rising high less = omega (arith, less)
spread n s (id ∷ ids) low rising high less =
    let rest = spread n id ids rising.0 rising.1 high.1 high.0 in
    omega (arith, rest, low.0)

below_high : (s n : ℕ) (ids : List ℕ) → AreBelow n ids → AreBelow n (filter (nat_le s) ids)
below_high s n [] below = tt
below_high s n (id ∷ ids) below = by_test (nat_le s id) (below_high s n ids below.1)
  where
    by_test : (b : Bool) → AreBelow n (filter (nat_le s) ids) → AreBelow n (if b then id ∷ filter (nat_le s) ids else filter (nat_le s) ids)
    by_test true rest = (below.0, rest)
    by_test false rest = rest

all_high : (s : ℕ) (ids : List ℕ) → IsBelowAll s (filter (nat_le (suc s)) ids)
all_high s [] = tt
all_high s (id ∷ ids) = elim (cases_Bool (nat_le (suc s) id)) [
  | inl high ↦ let least = leb-true (suc s) id high in rw high (omega (arith, least), all_high s ids)
  | inr low ↦ rw low (all_high s ids)
]

pub few_things : (ids : List ℕ) → AreRising ids → AreBelow IDS ids → length (filter (nat_le 64) ids) + 64 ≤ IDS
few_things ids rising below =
    let few = spread IDS 63 (filter (nat_le 64) ids) (all_high 63 ids) (rising_kept (nat_le 64) ids rising) (below_high 64 IDS ids below) (omega arith) in
    omega (arith, few)

-- ---- the things of a region

module _ (f : ℕ → Rec) (region : List Bounds) where
  abbrev touched : ℕ → Bool
  touched id = touches_region (abs_of (f id)) region

  both_tests : (ids : List ℕ) → filter (λ id. nat_le 64 id && touched id) ids ≡ filter touched (filter (nat_le 64) ids)
  both_tests [] = refl
  both_tests (id ∷ ids) = by_test (nat_le 64 id) (both_tests ids)
    where
      by_test : (b : Bool) → filter (λ i. nat_le 64 i && touched i) ids ≡ filter touched (filter (nat_le 64) ids)
          → (if b && touched id then id ∷ filter (λ i. nat_le 64 i && touched i) ids else filter (λ i. nat_le 64 i && touched i) ids)
          ≡ filter touched (if b then id ∷ filter (nat_le 64) ids else filter (nat_le 64) ids)
      by_test true rest = ap (λ (ns : List ℕ). if touched id then id ∷ ns else ns) rest
      by_test false rest = rest

  touched_ids : (rs : List Rec) → AreAtIds f rs → filter touched (map (λ (r : Rec). r.id) rs) ≡ map (λ (r : Rec). r.id) (records_touching region rs)
  touched_ids [] found = refl
  touched_ids (r ∷ rs) found =
      ap (λ (q : Rec). if touches_region (abs_of q) region then r.id ∷ filter touched (map (λ (r : Rec). r.id) rs) else filter touched (map (λ (r : Rec). r.id) rs)) found.0
      ∙ by_test (touches_region (abs_of r) region) (touched_ids rs found.1)
    where
      by_test : (b : Bool) → filter touched (map (λ (r : Rec). r.id) rs) ≡ map (λ (r : Rec). r.id) (records_touching region rs)
          → (if b then r.id ∷ filter touched (map (λ (r : Rec). r.id) rs) else filter touched (map (λ (r : Rec). r.id) rs))
          ≡ map (λ (r : Rec). r.id) (if b then r ∷ records_touching region rs else records_touching region rs)
      by_test true rest = ap (λ (ns : List ℕ). r.id ∷ ns) rest
      by_test false rest = rest

  touching_found : (rs : List Rec) → AreAtIds f rs → AreAtIds f (records_touching region rs)
  touching_found [] found = tt
  touching_found (r ∷ rs) found = by_test (touches_region (abs_of r) region) (touching_found rs found.1)
    where
      by_test : (b : Bool) → AreAtIds f (records_touching region rs) → AreAtIds f (if b then r ∷ records_touching region rs else records_touching region rs)
      by_test true rest = (found.0, rest)
      by_test false rest = rest

loaded_at_ids : (f : ℕ → Rec) (states : List NewState) (rs : List Rec) → AreAtIds f rs
    → filter_map (λ id. thing_of (f id) (state_at states id)) (map (λ (r : Rec). r.id) rs) ≡ filter_map (thing_with states) rs
loaded_at_ids f states [] found = refl
loaded_at_ids f states (r ∷ rs) found =
    ap (λ (q : Rec). cons_option (thing_of q (state_at states r.id)) (filter_map (λ id. thing_of (f id) (state_at states id)) (map (λ (r : Rec). r.id) rs))) found.0
    ∙ ap (λ (qs : List Rec). cons_option (thing_with states r) qs) (loaded_at_ids f states rs found.1)

module _ (F : Fixed) (things : List Rec) (region : List Bounds) (are : AreThings F things) where
  -- the ids of the things of a region
  pub things_of_region : things_in F region ≡ map (λ (r : Rec). r.id) (records_touching region things)
  things_of_region =
      both_tests F.start.record_of region F.start.ids
      ∙ ap (filter (touched F.start.record_of region)) (sym are.ids)
      ∙ touched_ids F.start.record_of region things are.found

  -- the things of a region, with the states that were loaded
  pub loaded_of_region : (states : List NewState) → things_loaded F region states ≡ filter_map (thing_with states) (records_touching region things)
  loaded_of_region states =
      ap (filter_map (λ id. thing_of (F.start.record_of id) (state_at states id))) things_of_region
      ∙ loaded_at_ids F.start.record_of states (records_touching region things) (touching_found F.start.record_of region things are.found)

  pub things_rise : IsStrictlyIncreasing F.start.ids → AreRising (map (λ (r : Rec). r.id) things)
  things_rise rising = subst AreRising (sym are.ids) (rising_kept (nat_le 64) F.start.ids (are_rising F.start.ids rising))

-- ---- one thing more

-- none of the records has this id
abbrev pub AreOthers : ℕ → List Rec → Type 0
AreOthers id [] = Unit {0}
AreOthers id (r ∷ rs) = (r.id ≢ id) × AreOthers id rs

below_at : (n : ℕ) (rs : List Rec) (k : ℕ) (d : Rec) → IsBelowAll n (map (λ (r : Rec). r.id) rs) → k < length rs → n < (get_or rs k d).id
below_at n [] k d below there = absurd (omega (arith, there))
below_at n (r ∷ rs) zero d below there = below.0
below_at n (r ∷ rs) (suc k) d below there = below_at n rs k d below.1 (omega (arith, there))

others_before : (rs : List Rec) (k : ℕ) (d : Rec) → AreRising (map (λ (r : Rec). r.id) rs) → k < length rs → AreOthers (get_or rs k d).id (take k rs)
others_before [] k d rising there = absurd (omega (arith, there))
others_before (r ∷ rs) zero d rising there = tt
others_before (r ∷ rs) (suc k) d rising there =
    let less = below_at r.id rs k d rising.0 (omega (arith, there)) in
    ((λ e. omega (arith, e, less)), others_before rs k d rising.1 (omega (arith, there)))

others_touching : (region : List Bounds) (id : ℕ) (rs : List Rec) → AreOthers id rs → AreOthers id (records_touching region rs)
others_touching region id [] others = tt
others_touching region id (r ∷ rs) others = by_test (touches_region (abs_of r) region) (others_touching region id rs others.1)
  where
    by_test : (b : Bool) → AreOthers id (records_touching region rs) → AreOthers id (if b then r ∷ records_touching region rs else records_touching region rs)
    by_test true rest = (others.0, rest)
    by_test false rest = rest

-- a state of another thing doesn't matter
with_other : (id state : ℕ) (states : List NewState) (rs : List Rec) → AreOthers id rs
    → filter_map (thing_with states) rs ≡ filter_map (thing_with (record { id = id; state = state } ∷ states)) rs
with_other id state states [] others = refl
with_other id state states (r ∷ rs) others =
    let same : thing_with states r ≡ thing_with (record { id = id; state = state } ∷ states) r =
    ap (thing_of r) (sym (cond-false (id == r.id) (Some state) (state_at states r.id) (ne_eqb id r.id (λ e. others.0 (sym e))))) in
    ap (λ (o : Option Rec). cons_option o (filter_map (thing_with states) rs)) same
    ∙ ap (λ (qs : List Rec). cons_option (thing_with (record { id = id; state = state } ∷ states) r) qs) (with_other id state states rs others.1)

touching_last : (region : List Bounds) (rs : List Rec) (r : Rec) → records_touching region (rs ++ r ∷ []) ≡ records_touching region rs ++ records_touching region (r ∷ [])
touching_last region [] r = refl
touching_last region (x ∷ rs) r = by_test (touches_region (abs_of x) region) (touching_last region rs r)
  where
    by_test : (b : Bool) → records_touching region (rs ++ r ∷ []) ≡ records_touching region rs ++ records_touching region (r ∷ [])
        → (if b then x ∷ records_touching region (rs ++ r ∷ []) else records_touching region (rs ++ r ∷ []))
        ≡ (if b then x ∷ records_touching region rs else records_touching region rs) ++ records_touching region (r ∷ [])
    by_test true rest = ap (λ (qs : List Rec). x ∷ qs) rest
    by_test false rest = rest

module _ (region : List Bounds) (things : List Rec) (k : ℕ) (d : Rec) (there : k < length things) where
  abbrev thing : Rec
  thing = get_or things k d

  touching_more : touches_region (abs_of thing) region ≡ true → records_touching region (take (k + 1) things) ≡ records_touching region (take k things) ++ thing ∷ []
  touching_more is = ap (records_touching region) (take_more things k d there) ∙ touching_last region (take k things) thing
      ∙ ap (λ (qs : List Rec). records_touching region (take k things) ++ qs) (cond-true (touches_region (abs_of thing) region) (thing ∷ []) [] is)

  -- the thing doesn't touch the region
  pub touching_same : touches_region (abs_of thing) region ≡ false → records_touching region (take (k + 1) things) ≡ records_touching region (take k things)
  touching_same not = ap (records_touching region) (take_more things k d there) ∙ touching_last region (take k things) thing
      ∙ ap (λ (qs : List Rec). records_touching region (take k things) ++ qs) (cond-false (touches_region (abs_of thing) region) (thing ∷ []) [] not)
      ∙ append-nil (records_touching region (take k things))

  -- the thing touches the region, and its state was loaded
  pub loaded_more : (states : List NewState) (state : ℕ) → AreRising (map (λ (r : Rec). r.id) things) → touches_region (abs_of thing) region ≡ true
      → filter_map (thing_with (record { id = thing.id; state = state } ∷ states)) (records_touching region (take (k + 1) things))
      ≡ filter_map (thing_with states) (records_touching region (take k things)) ++ with_state thing state ∷ []
  loaded_more states state rising is =
      let more = record { id = thing.id; state = state } ∷ states in
      ap (filter_map (thing_with more)) (touching_more is)
      ∙ filter_map-append (thing_with more) (records_touching region (take k things)) (thing ∷ [])
      ∙ ap (λ (qs : List Rec). qs ++ filter_map (thing_with more) (thing ∷ [])) (sym (with_other thing.id state states (records_touching region (take k things)) (others_touching region thing.id (take k things) (others_before things k d rising there))))
      ∙ ap (λ (o : Option ℕ). filter_map (thing_with states) (records_touching region (take k things)) ++ cons_option (thing_of thing o) [])
      (cond-true (thing.id == thing.id) (Some state) (state_at states thing.id) (eq-eqb thing.id thing.id refl))

  drop_first : drop k things ≡ thing ∷ drop (k + 1) things
  drop_first = drop_more things k d there

  -- what is left of the things of the region
  pub left_first : touches_region (abs_of thing) region ≡ true
      → map (λ (r : Rec). r.id) (records_touching region (drop k things)) ≡ thing.id ∷ map (λ (r : Rec). r.id) (records_touching region (drop (k + 1) things))
  left_first is = ap (λ (rs : List Rec). map (λ (r : Rec). r.id) (records_touching region rs)) drop_first
      ∙ ap (λ (rs : List Rec). map (λ (r : Rec). r.id) rs) (cond-true (touches_region (abs_of thing) region) (thing ∷ records_touching region (drop (k + 1) things)) (records_touching region (drop (k + 1) things)) is)

  pub left_same : touches_region (abs_of thing) region ≡ false
      → map (λ (r : Rec). r.id) (records_touching region (drop k things)) ≡ map (λ (r : Rec). r.id) (records_touching region (drop (k + 1) things))
  left_same not = ap (λ (rs : List Rec). map (λ (r : Rec). r.id) (records_touching region rs)) drop_first
      ∙ ap (λ (rs : List Rec). map (λ (r : Rec). r.id) rs) (cond-false (touches_region (abs_of thing) region) (thing ∷ records_touching region (drop (k + 1) things)) (records_touching region (drop (k + 1) things)) not)

-- ---- the records of things at the start

high_ids : (rs : List Rec) → map (λ (r : Rec). r.id) (filter (λ (r : Rec). nat_le 64 r.id) rs) ≡ filter (nat_le 64) (map (λ (r : Rec). r.id) rs)
high_ids [] = refl
high_ids (r ∷ rs) = by_test (nat_le 64 r.id) (high_ids rs)
  where
    by_test : (b : Bool) → map (λ (r : Rec). r.id) (filter (λ (r : Rec). nat_le 64 r.id) rs) ≡ filter (nat_le 64) (map (λ (r : Rec). r.id) rs)
        → map (λ (r : Rec). r.id) (if b then r ∷ filter (λ (r : Rec). nat_le 64 r.id) rs else filter (λ (r : Rec). nat_le 64 r.id) rs)
        ≡ (if b then r.id ∷ filter (nat_le 64) (map (λ (r : Rec). r.id) rs) else filter (nat_le 64) (map (λ (r : Rec). r.id) rs))
    by_test true rest = ap (λ (ns : List ℕ). r.id ∷ ns) rest
    by_test false rest = rest

high_found : (f : ℕ → Rec) (rs : List Rec) → AreFound f rs → AreAtIds f (filter (λ (r : Rec). nat_le 64 r.id) rs)
high_found f [] found = tt
high_found f (r ∷ rs) found = by_test (nat_le 64 r.id) (high_found f rs found.1)
  where
    by_test : (b : Bool) → AreAtIds f (filter (λ (r : Rec). nat_le 64 r.id) rs) → AreAtIds f (if b then r ∷ filter (λ (r : Rec). nat_le 64 r.id) rs else filter (λ (r : Rec). nat_le 64 r.id) rs)
    by_test true rest = (found.0, rest)
    by_test false rest = rest

are_below : (n : ℕ) (ids : List ℕ) → ((j : ℕ) → j < length ids → get_or ids j 0 < n) → AreBelow n ids
are_below n [] each = tt
are_below n (id ∷ ids) each = (each 0 (omega arith), are_below n ids (λ j there. each (suc j) (omega (arith, there))))

-- each live id is one that there is
id_below : (F : Fixed) → HasValidity F.takes F.effect_of → IsStart F → (j : ℕ) → j < length F.start.ids → get_or F.start.ids j 0 < IDS
id_below F validity start j there =
    let id = get_or F.start.ids j 0 in
    let sized = length-map F.start.ids F.start.record_of in
    let all_taken = All-get_or (λ (r : Rec). F.takes r ≡ true) (map F.start.record_of F.start.ids) j (F.start.record_of 0) (omega (arith, sized, there)) start.taken in
    let taken : F.takes (F.start.record_of id) ≡ true = ap F.takes (sym (get_or-map F.start.record_of F.start.ids j 0)) ∙ all_taken in
    let own : (F.start.record_of id).id ≡ id = All-get_or (λ (n : ℕ). (F.start.record_of n).id ≡ n) F.start.ids j 0 there start.own in
    let small = id_in (F.start.record_of id).kind (F.start.record_of id).id (validity.keepable (F.start.record_of id) taken).bounds.id in
    omega (arith, own, small)

-- there are few things
pub few_high : {A : Type 0} (meaning : A → Meaning) (rules : RulesView A) → HasValidity (fixed_of meaning rules).takes (fixed_of meaning rules).effect_of → IsStart (fixed_of meaning rules)
    → length (filter (λ (r : Rec). nat_le 64 r.id) rules.start) + 64 ≤ IDS
few_high meaning rules validity start =
    let F = fixed_of meaning rules in
    let few = few_things F.start.ids (are_rising F.start.ids start.rising) (are_below IDS F.start.ids (id_below F validity start)) in
    let sized = length-map (filter (λ (r : Rec). nat_le 64 r.id) rules.start) (λ (r : Rec). r.id) in
    let same = ap (λ (ns : List ℕ). length ns) (high_ids rules.start) in
    omega (arith, few, sized, same)

-- the things at the start, where the records of players are left out
pub are_things : {A : Type 0} (meaning : A → Meaning) (rules : RulesView A) (leaf bits first : ℕ) (boxes : List Bounds) (area : Bounds) (index : StripsView) → HasValidity (fixed_of meaning rules).takes (fixed_of meaning rules).effect_of
    → IsRuledWith (fixed_of meaning rules) rules.start leaf bits first boxes area index → AreThings (fixed_of meaning rules) (drop first rules.start)
are_things meaning rules leaf bits first boxes area index validity ruled =
    let F = fixed_of meaning rules in
    subst (AreThings F) (sym ruled.things) (record {
      ids = high_ids rules.start;
      found = high_found F.start.record_of rules.start (found_at_ids rules.start ruled.start.rising);
      few = few_high meaning rules validity ruled.start;
    })

pub whole_rest : (n : ℕ) (rs : List Rec) → take (length rs - n) (drop n rs) ≡ drop n rs
whole_rest n rs = let long = length-drop n rs in take_all (length rs - n) (drop n rs) (omega (arith, long))

-- ---- the bits of things

all_at_ids : (f : ℕ → Rec) (rs : List Rec) → AreAtIds f rs → map f (map (λ (r : Rec). r.id) rs) ≡ rs
all_at_ids f [] at = refl
all_at_ids f (r ∷ rs) at = ap (λ (q : Rec). q ∷ map f (map (λ (r : Rec). r.id) rs)) at.0 ∙ ap (λ (qs : List Rec). r ∷ qs) (all_at_ids f rs at.1)

-- there is one list of the things of the map
same_things : (F : Fixed) (one two : List Rec) → AreThings F one → AreThings F two → one ≡ two
same_things F one two a b =
    sym (all_at_ids F.start.record_of one a.found) ∙ ap (map F.start.record_of) (a.ids ∙ sym b.ids) ∙ all_at_ids F.start.record_of two b.found

-- the boxes of the things, and bits that those have which a region touches
module _ (F : Fixed) (things : List Rec) (boxes : List Bounds) (are : AreThings F things) (boxed : boxes ≡ map abs_of things) where
  pub things_boxed : AreThingBoxes F boxes
  things_boxed others are_others = boxed ∙ ap (λ (rs : List Rec). map abs_of rs) (same_things F things others are are_others)

  pub things_marked : (region : List Bounds) (bits : List ℕ) → MarksBoxes boxes region bits → MarksThings F region bits
  things_marked region bits marks others are_others =
      subst (λ (bs : List Bounds). AreMarked region bs bits) (things_boxed others are_others) (record {
        few = let few = are.few in
            let long = ap (λ (bs : List Bounds). length bs) boxed ∙ length-map things abs_of in
            omega (arith, few, long);
        each = marks;
      })

  -- where all lie in a box that lies in one of the region
  pub all_touched : (area : Bounds) (region : List Bounds) → All (λ b. contains area b ≡ true) boxes → All IsRecord things → is_inside area region ≡ true → TouchesAll F region
  all_touched area region around records inside others are_others =
      subst (λ (rs : List Rec). All (λ r. touches_region (abs_of r) region ≡ true) rs) (same_things F things others are are_others) (λ k d within.
      let r = get_or things k d in
      let long = ap (λ (bs : List Bounds). length bs) boxed ∙ length-map things abs_of in
      let box_is = ap (λ (bs : List Bounds). get_or bs k (abs_of d)) boxed ∙ get_or-map abs_of things k d in
      let holds = subst (λ (b : Bounds). contains area b ≡ true) box_is (around k (abs_of d) (omega (arith, within, long))) in
      let ordered = (records_have_boxes r (All-get_or IsRecord things k d within records)).abs.ordered in
      inside_touches (abs_of r) region ordered (inside_through area (abs_of r) region holds inside))

-- the records of the start are within their bounds
all_found : (f : ℕ → Rec) (P : Rec → Type 0) (rs : List Rec) → AreFound f rs → AllByRecursion P (map f (map (λ (r : Rec). r.id) rs)) → AllByRecursion P rs
all_found f P [] found all = all
all_found f P (r ∷ rs) found all = (subst P found.0 all.0, all_found f P rs found.1 all.1)

kept_by : (P Q : Rec → Type 0) (rs : List Rec) → ((r : Rec) → P r → Q r) → AllByRecursion P rs → AllByRecursion Q (filter (λ (r : Rec). nat_le 64 r.id) rs)
kept_by P Q [] gives all = tt
kept_by P Q (r ∷ rs) gives all = by_test (nat_le 64 r.id) (kept_by P Q rs gives all.1)
  where
    by_test : (b : Bool) → AllByRecursion Q (filter (λ (r : Rec). nat_le 64 r.id) rs) → AllByRecursion Q (if b then r ∷ filter (λ (r : Rec). nat_le 64 r.id) rs else filter (λ (r : Rec). nat_le 64 r.id) rs)
    by_test true rest = (gives r all.0, rest)
    by_test false rest = rest

pub things_are_records : {A : Type 0} (meaning : A → Meaning) (rules : RulesView A) → HasValidity (fixed_of meaning rules).takes (fixed_of meaning rules).effect_of → IsStart (fixed_of meaning rules)
    → All IsRecord (filter (λ (r : Rec). nat_le 64 r.id) rules.start)
things_are_records meaning rules validity start =
    let F = fixed_of meaning rules in
    let taken : Rec → Type 0 = λ r. F.takes r ≡ true in
    All-from_recursion IsRecord (filter (λ (r : Rec). nat_le 64 r.id) rules.start)
    (kept_by taken IsRecord rules.start (λ r is. (validity.keepable r is).bounds)
    (all_found F.start.record_of taken rules.start (found_at_ids rules.start start.rising) (recursion_from_All taken (map F.start.record_of F.start.ids) start.taken)))
