-- What was loaded of the records at the start, in one pass over them.
use Rattle.std.proofs.Common.{◌≡◌, ℕ, zero, suc, ◌+◌, ◌<◌, ◌≤◌, ◌↔◌, ◌==◌, IsTrue, Bool, true, false, ◌&&◌, List, [], ◌∷◌, ◌++◌, length, get_or, take, append-nil, map, refl, ap, sym, ◌∙◌, subst, inl, inr, arith}
use Rattle.std.specs.Prelude.{filter, not, nat_lt, nat_le, Option, Some, None, if◌then◌else◌}
use Rattle.std.specs.Bool.{MatchBool}
use Rattle.std.specs.List.{filter_map, cons_option}
use Rattle.std.specs.List.Sorted.{IsStrictlyIncreasing}
use Rattle.std.proofs.lemmas.Bool.{cases_Bool, false≢true, eq-eqb, ne_eqb, cond-true, cond-false, leb-true, leb-false}
use Rattle.std.proofs.Math.ListN.{get_or-map}
use Rattle.std.proofs.lemmas.List.{length-map, map-append, take_more, get_or-set_other}
use Rattle.std.proofs.Math.ListN.{set}
use Rattle.world_tree.specs.Nears.{NearView}
use Rattle.core_seats.specs.PlayerReads.{player_read_of}
use Rattle.core_seats.specs.declared.reads.PlayerRead.{PlayerRead as PlayerParts}
use Rattle.std.proofs.lemmas.List.Elements.{All-get_or, filter_map-append}
use Rattle.std.proofs.lemmas.List.Kept.{AllPairs-from_increasing}
use Rattle.arena_geo.specs.Bounds.{Bounds}
use Rattle.arena_geo.specs.Regions.{touches_region}
use Rattle.entity_recs.specs.declared.limits.TheConstants.{IDS}
use Rattle.entity_recs.specs.declared.rec.Rec.{Rec}
use Rattle.entity_recs.specs.declared.effect.NewState.{NewState}
use Rattle.entity_recs.specs.Bodies.{abs_of}
use Rattle.entity_recs.specs.Actions.{HasValidity}
use Rattle.core_steps.specs.Stands.{IsStart}
use Rattle.entity_recs.specs.Worlds.{record_with}
use Rattle.entity_recs.proofs.Ids.{id_in}
use Rattle.core_steps.specs.Nodes.{Fixed}
use Rattle.core_steps.specs.Reads.{PlayerRead, player_of, player_at, thing_of, state_at, record_loaded}
use Rattle.core_seats.specs.NearRecords.{is_touched_thing, loaded_of, touching_one, near_one}

-- each record has what a function gives at its id
abbrev pub AreFound : (ℕ → Rec) → List Rec → Type 0
AreFound f [] = Unit {0}
AreFound f (r ∷ rs) = (f r.id ≡ r) × AreFound f rs

-- the id is below those of all these records
abbrev IsBelowAll : ℕ → List Rec → Type 0
IsBelowAll n [] = Unit {0}
IsBelowAll n (r ∷ rs) = (n < r.id) × IsBelowAll n rs

below_all : (n : ℕ) (rs : List Rec) → IsStrictlyIncreasing (n ∷ map (λ (r : Rec). r.id) rs) → IsBelowAll n rs
below_all n rs rising = each rs (λ j d below. let lt = AllPairs-from_increasing (n ∷ map (λ (r : Rec). r.id) rs) rising 0 (suc j) d (omega arith) (omega (arith, length-map rs (λ (r : Rec). r.id))) in lt)
  where
    each : (xs : List Rec) → ((j d : ℕ) → j < length xs → n < get_or (map (λ (r : Rec). r.id) xs) j d) → IsBelowAll n xs
    each [] h = tt
    each (x ∷ xs) h = (h 0 0 (omega arith), each xs (λ j d below. h (suc j) d (omega arith)))

found_after : (r : Rec) (before rs : List Rec) → IsBelowAll r.id rs → AreFound (record_with before) rs → AreFound (record_with (r ∷ before)) rs
found_after r before [] below found = tt
found_after r before (x ∷ rs) below found =
    (cond-false (r.id == x.id) r (record_with before x.id) (ne_eqb r.id x.id (λ same. omega (arith, below.0))) ∙ found.0, found_after r before rs below.1 found.1)

later : (x : ℕ) (xs : List ℕ) (k : ℕ) → get_or (x ∷ xs) (suc k) 0 < get_or (x ∷ xs) (suc k + 1) 0 → get_or xs k 0 < get_or xs (k + 1) 0
later x xs k less = let e : suc k + 1 ≡ suc (k + 1) = omega arith in subst (λ (n : ℕ). get_or xs k 0 < get_or (x ∷ xs) n 0) e less

-- records in rising id are found at their ids
pub found_at_ids : (rs : List Rec) → IsStrictlyIncreasing (map (λ (r : Rec). r.id) rs) → AreFound (record_with rs) rs
found_at_ids [] rising = tt
found_at_ids (r ∷ rs) rising = (
  cond-true (r.id == r.id) r (record_with rs r.id) (eq-eqb r.id r.id refl),
  found_after r rs rs (below_all r.id rs rising) (found_at_ids rs (λ k below. later r.id (map (λ (r : Rec). r.id) rs) k (rising (suc k) (omega arith)))),
)

things_by : (b : Bool) (r : Rec) (region : List Bounds) (kept : List Rec) (ids : List ℕ) → map (λ (r : Rec). r.id) kept ≡ ids
    → map (λ (r : Rec). r.id) (if b then r ∷ kept else kept) ≡ (if b then r.id ∷ ids else ids)
things_by true r region kept ids rest = ap (λ (ns : List ℕ). r.id ∷ ns) rest
things_by false r region kept ids rest = rest

pub things_are : (f : ℕ → Rec) (region : List Bounds) (rs : List Rec) → AreFound f rs
    → map (λ (r : Rec). r.id) (filter (is_touched_thing region) rs)
    ≡ filter (λ id. nat_le 64 id && touches_region (abs_of (f id)) region) (map (λ (r : Rec). r.id) rs)
things_are f region [] found = refl
things_are f region (r ∷ rs) found =
    let rest = things_are f region rs found.1 in
    things_by (is_touched_thing region r) r region (filter (is_touched_thing region) rs) _ rest
    ∙ ap (λ (q : Rec). if nat_le 64 r.id && touches_region (abs_of q) region then r.id ∷ filter (λ id. nat_le 64 id && touches_region (abs_of (f id)) region) (map (λ (r : Rec). r.id) rs)
    else filter (λ id. nat_le 64 id && touches_region (abs_of (f id)) region) (map (λ (r : Rec). r.id) rs)) (sym found.0)

near_by : (region : List Bounds) (loaded : Option Rec) (near : List Rec) (others : List Rec) → near ≡ filter (λ r. touches_region (abs_of r) region) others
    → cons_option (touching_one region loaded) near ≡ filter (λ r. touches_region (abs_of r) region) (cons_option loaded others)
near_by region None near others rest = rest
near_by region (Some r) near others rest = by_test (touches_region (abs_of r) region)
  where
    by_test : (b : Bool) → cons_option (if b then Some r else None) near
        ≡ (if b then r ∷ filter (λ r. touches_region (abs_of r) region) others else filter (λ r. touches_region (abs_of r) region) others)
    by_test true = ap (λ (rs : List Rec). r ∷ rs) rest
    by_test false = rest

pub near_are : (F : Fixed) (region : List Bounds) (slot : ℕ) (others : List PlayerRead) (states : List NewState) (rs : List Rec) → AreFound F.start.record_of rs
    → filter_map (near_one region slot others states) rs
    ≡ filter (λ r. touches_region (abs_of r) region) (filter_map (record_loaded F others states) (filter (λ id. not (id == slot)) (map (λ (r : Rec). r.id) rs)))
near_are F region slot others states [] found = refl
near_are F region slot others states (r ∷ rs) found =
    near_next (near_are F region slot others states rs found.1) (r.id == slot)
  where
    same : loaded_of others states r ≡ record_loaded F others states r.id
    same = ap (λ (q : Rec). if nat_lt r.id 64 then player_of r.id (player_at others r.id) else thing_of q (state_at states r.id)) (sym found.0)

    near_next : filter_map (near_one region slot others states) rs
        ≡ filter (λ r. touches_region (abs_of r) region) (filter_map (record_loaded F others states) (filter (λ id. not (id == slot)) (map (λ (r : Rec). r.id) rs)))
        → (b : Bool) → cons_option (if b then None else touching_one region (loaded_of others states r)) (filter_map (near_one region slot others states) rs)
        ≡ filter (λ r. touches_region (abs_of r) region) (filter_map (record_loaded F others states)
        (if not b then r.id ∷ filter (λ id. not (id == slot)) (map (λ (r : Rec). r.id) rs) else filter (λ id. not (id == slot)) (map (λ (r : Rec). r.id) rs)))
    near_next rest true = rest
    near_next rest false =
        near_by region (loaded_of others states r) _ _ rest
        ∙ ap (λ (o : Option Rec). filter (λ r. touches_region (abs_of r) region) (cons_option o (filter_map (record_loaded F others states) (filter (λ id. not (id == slot)) (map (λ (r : Rec). r.id) rs))))) same

-- ---- how many records there are at most

at_least : (xs : List ℕ) (i : ℕ) → IsStrictlyIncreasing xs → i < length xs → i ≤ get_or xs i 0
at_least xs zero rising below = omega arith
at_least xs (suc i) rising below =
    let e : i + 1 ≡ suc i = omega arith in
    let before = at_least xs i rising (omega arith) in
    let less : get_or xs i 0 < get_or xs (suc i) 0 = subst (λ (n : ℕ). get_or xs i 0 < get_or xs n 0) e (rising i (omega arith)) in
    omega arith

-- there are at most as many live ids as there are ids
pub few_ids : (F : Fixed) → HasValidity F.takes F.effect_of → IsStart F → length F.start.ids ≤ IDS
few_ids F validity start = elim (cases_Bool (nat_le (length F.start.ids) IDS)) [
  | inl few ↦ leb-true (length F.start.ids) IDS few
  | inr many ↦
      let over = leb-false (length F.start.ids) IDS many in
      let id = get_or F.start.ids IDS 0 in
      let there : IDS < length F.start.ids = omega arith in
      let high = at_least F.start.ids IDS start.rising there in
      let sized = length-map F.start.ids F.start.record_of in
      let all_taken = All-get_or (λ (r : Rec). F.takes r ≡ true) (map F.start.record_of F.start.ids) IDS (F.start.record_of 0) (omega (arith, sized)) start.taken in
      let taken : F.takes (F.start.record_of id) ≡ true = ap F.takes (sym (get_or-map F.start.record_of F.start.ids IDS 0)) ∙ all_taken in
      let own : (F.start.record_of id).id ≡ id = All-get_or (λ (n : ℕ). (F.start.record_of n).id ≡ n) F.start.ids IDS 0 there start.own in
      let small = id_in (F.start.record_of id).kind (F.start.record_of id).id (validity.keepable (F.start.record_of id) taken).bounds.id in
      absurd (omega arith)
]

-- ---- one record more

pub near_more : (h : Rec → Option Rec) (xs : List Rec) (k : ℕ) (one d : Rec) → k < length xs → h (get_or xs k d) ≡ Some one
    → filter_map h (take (k + 1) xs) ≡ filter_map h (take k xs) ++ one ∷ []
near_more h xs k one d below is =
    ap (filter_map h) (take_more xs k d below) ∙ filter_map-append h (take k xs) (get_or xs k d ∷ [])
    ∙ ap (λ (o : Option Rec). filter_map h (take k xs) ++ cons_option o []) is

pub near_same : (h : Rec → Option Rec) (xs : List Rec) (k : ℕ) (d : Rec) → k < length xs → h (get_or xs k d) ≡ None
    → filter_map h (take (k + 1) xs) ≡ filter_map h (take k xs)
near_same h xs k d below is =
    ap (filter_map h) (take_more xs k d below) ∙ filter_map-append h (take k xs) (get_or xs k d ∷ [])
    ∙ ap (λ (o : Option Rec). filter_map h (take k xs) ++ cons_option o []) is ∙ append-nil (filter_map h (take k xs))

-- a player of whom nothing was loaded, neither in a list nor in one more place
none_in_more : (xs : List PlayerRead) (x : PlayerRead) (slot : ℕ) → player_at xs slot ≡ None → (x.slot ≡ slot → ⊥)
    → player_at (xs ++ x ∷ []) slot ≡ None
none_in_more [] x slot none other = cond-false (x.slot == slot) (Some x.words) None (ne_eqb x.slot slot other)
none_in_more (y ∷ xs) x slot none other = by_test (y.slot == slot) none (λ rest. none_in_more xs x slot rest other)
  where
    by_test : (b : Bool) → (if b then Some y.words else player_at xs slot) ≡ None
        → (player_at xs slot ≡ None → player_at (xs ++ x ∷ []) slot ≡ None)
        → (if b then Some y.words else player_at (xs ++ x ∷ []) slot) ≡ None
    by_test true none more = cc
    by_test false none more = more none

-- a place that is set is set, or there is no such place
set_there : (slots : List Bool) (k : ℕ) → get_or (set slots k true) k true ≡ true
set_there [] k = refl
set_there (b ∷ slots) zero = refl
set_there (b ∷ slots) (suc k) = set_there slots k

-- the slots of one more player that was loaded
pub slots_more : (slots : List Bool) (xs : List PlayerParts) (i : ℕ) (d : PlayerParts) → i < length xs
    → ((slot : ℕ) → get_or slots slot true ≡ false → player_at (map player_read_of (take i xs)) slot ≡ None)
    → (slot : ℕ) → get_or (set slots (get_or xs i d).slot true) slot true ≡ false
    → player_at (map player_read_of (take (i + 1) xs)) slot ≡ None
slots_more slots xs i d below each slot unset =
    let x = get_or xs i d in
    let other : x.slot ≡ slot → ⊥ = λ same. absurd (false≢true (sym unset ∙ (ap (λ n. get_or (set slots x.slot true) n true) (sym same) ∙ set_there slots x.slot))) in
    let before = each slot (sym (get_or-set_other slots x.slot slot true true (λ same. other (sym same))) ∙ unset) in
    ap (λ rs. player_at (map player_read_of rs) slot) (take_more xs i d below)
    ∙ ap (λ rs. player_at rs slot) (map-append player_read_of (take i xs) (x ∷ []))
    ∙ none_in_more (map player_read_of (take i xs)) (player_read_of x) slot before other

-- a list that has room takes one record more
pub pushed_near : (list new : NearView) (r : Rec) (b : Bool) → length list.items < list.room → IsTrue b ↔ (length list.items < list.room)
    → MatchBool b (new ≡ record list { items = list.items ++ r ∷ [] }) (new ≡ list) → new ≡ record list { items = list.items ++ r ∷ [] }
pushed_near list new r true fits room does = does
pushed_near list new r false fits room does = absurd (false≢true (room.1 fits))
