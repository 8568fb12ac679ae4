-- That the live ids rise, and that they are those that have a record.
use Rattle.std.proofs.Common.{◌≡◌, ℕ, zero, suc, ◌+◌, ◌<◌, ◌≤◌, Bool, true, false, ◌||◌, nat_eq, map, filter, List, [], ◌∷◌, Option, Some, None, is_some, slice_index, zero-add, sym, refl, ap, subst, ◌∙◌, arith}
use Rattle.std.specs.List.{cons_option, filter_map}
use Rattle.std.specs.List.Sorted.{IsStrictlyIncreasing}
use Rattle.std.proofs.lemmas.Bool.{eq-eqb, ne_eqb, or_from, or_left}
use Rattle.entity_recs.specs.declared.rec.Rec.{Rec}
use Rattle.link_lists.specs.Pool.{has}
use Rattle.entity_recs.specs.Bodies.{is_touched}
use Rattle.world_tree.specs.Live.{record_at, live_in, ids_of}
use Rattle.world_tree.specs.Worlds.{WorldView, record_of, IsLinked}
use Rattle.world_tree.specs.Laws.{LiveIdsRise, LiveIdsHaveRecords, LiveRecordsById, HaveRisingIds, NearIdsRise, TouchingIdsRise}
use Rattle.world_tree.specs.Queries.{is_near}

-- the first number is at least this, and each later one is above the one before it
abbrev pub RisesFrom : ℕ → List ℕ → Type 0
RisesFrom low [] = Unit {0}
RisesFrom low (x ∷ xs) = (low ≤ x) × RisesFrom (x + 1) xs

lower : (low less : ℕ) (xs : List ℕ) → less ≤ low → RisesFrom low xs → RisesFrom less xs
lower low less [] below rises = tt
lower low less (x ∷ xs) below rises = (omega (arith, rises.0), rises.1)

increasing : (low : ℕ) (xs : List ℕ) → RisesFrom low xs → IsStrictlyIncreasing xs
increasing low [] rises k within = absurd (omega arith)
increasing low (x ∷ []) rises k within = absurd (omega arith)
increasing low (x ∷ (y ∷ ys)) rises zero within = omega (arith, rises.1.0)
increasing low (x ∷ (y ∷ ys)) rises (suc k) within =
    let later : suc (k + 1) ≡ suc k + 1 = omega arith in
    subst (λ j. slice_index (y ∷ ys) k < slice_index (x ∷ (y ∷ ys)) j) later (increasing (x + 1) (y ∷ ys) rises.1 k (omega arith))

pub ids-rise : (start : ℕ) (records : List (Option Rec)) → ((i : ℕ) (r : Rec) → record_at records i ≡ Some r → r.id ≡ start + i) → RisesFrom start (ids_of records)
ids-rise start [] own = tt
ids-rise start (None ∷ records) own =
    lower (start + 1) start (ids_of records) (omega arith) (ids-rise (start + 1) records (λ i r e. own (suc i) r e ∙ omega arith))
ids-rise start (Some r ∷ records) own =
    let here = own 0 r refl in
    (omega arith, lower (start + 1) (r.id + 1) (ids_of records) (omega arith) (ids-rise (start + 1) records (λ i x e. own (suc i) x e ∙ omega arith)))

-- where each record has its place as its id, the ids rise
pub ids_rise : (records : List (Option Rec)) → ((i : ℕ) (r : Rec) → record_at records i ≡ Some r → r.id ≡ i) → IsStrictlyIncreasing (ids_of records)
ids_rise records own = increasing 0 (ids_of records) (ids-rise 0 records (λ i r e. own i r e ∙ omega arith))

pub live_ids_rise : LiveIdsRise
live_ids_rise w linked = ids_rise w.records (λ i r e. (linked.entries i r e).own_id)

-- the live records by the live ids: from a place on, where f gives the record of each place
records-by_ids : (start : ℕ) (f : ℕ → Option Rec) (records : List (Option Rec)) → ((i : ℕ) → f (start + i) ≡ record_at records i)
    → ((i : ℕ) (r : Rec) → record_at records i ≡ Some r → r.id ≡ start + i) → live_in records ≡ filter_map f (ids_of records)
records-by_ids start f [] gives own = refl
records-by_ids start f (None ∷ records) gives own =
    records-by_ids (start + 1) f records
    (λ i. let later : start + 1 + i ≡ start + suc i = omega arith in ap f later ∙ gives (suc i))
    (λ i r e. own (suc i) r e ∙ omega arith)
records-by_ids start f (Some r ∷ records) gives own =
    let here : f r.id ≡ Some r = ap f (own 0 r refl) ∙ gives 0 in
    let rest = records-by_ids (start + 1) f records
    (λ i. let later : start + 1 + i ≡ start + suc i = omega arith in ap f later ∙ gives (suc i))
    (λ i x e. own (suc i) x e ∙ omega arith) in
    ap (λ (rs : List Rec). r ∷ rs) rest ∙ ap (λ o. cons_option o (filter_map f (ids_of records))) (sym here)

pub live_records_by_id : LiveRecordsById
live_records_by_id w linked =
    records-by_ids 0 (record_of w) w.records (λ i. ap (record_of w) (zero-add i)) (λ i r e. (linked.entries i r e).own_id ∙ omega arith)

-- a list that rises from a number has none below it
rises-lacks : (low x : ℕ) (xs : List ℕ) → RisesFrom low xs → x < low → has xs x ≡ false
rises-lacks low x [] rises below = refl
rises-lacks low x (y ∷ ys) rises below =
    or_from (nat_eq x y) (has ys x) (ne_eqb x y (λ e. omega (arith, rises.0, e))) (rises-lacks (y + 1) x ys rises.1 (omega (arith, rises.0)))

ids-are : (start : ℕ) (records : List (Option Rec)) → ((i : ℕ) (r : Rec) → record_at records i ≡ Some r → r.id ≡ start + i)
    → (i : ℕ) → has (ids_of records) (start + i) ≡ is_some (record_at records i)
ids-are start [] own i = refl
ids-are start (None ∷ records) own zero =
    rises-lacks (start + 1) (start + 0) (ids_of records) (ids-rise (start + 1) records (λ i r e. own (suc i) r e ∙ omega arith)) (omega arith)
ids-are start (None ∷ records) own (suc i) =
    let later : start + suc i ≡ start + 1 + i = omega arith in
    ap (has (ids_of records)) later ∙ ids-are (start + 1) records (λ j r e. own (suc j) r e ∙ omega arith) i
ids-are start (Some r ∷ records) own zero = or_left _ _ (eq-eqb (start + 0) r.id (sym (own 0 r refl)))
ids-are start (Some r ∷ records) own (suc i) =
    let later : start + suc i ≡ start + 1 + i = omega arith in
    let here = own 0 r refl in
    let t : nat_eq (start + suc i) r.id ≡ false = ne_eqb (start + suc i) r.id (λ e. omega (arith, here, e)) in
    let rest = ap (has (ids_of records)) later ∙ ids-are (start + 1) records (λ j x e. own (suc j) x e ∙ omega arith) i in
    ap (λ (b : Bool). b || has (ids_of records) (start + suc i)) t ∙ rest

pub live_ids_have_records : LiveIdsHaveRecords
live_ids_have_records w linked id =
    ap (has (ids_of w.records)) (sym (zero-add id)) ∙ ids-are 0 w.records (λ i r e. (linked.entries i r e).own_id ∙ omega arith) id

-- ---- what is picked out of rising records rises

-- with or without one id before them
kept : (low : ℕ) (keep : Bool) (r : Rec) (p : Rec → Bool) (records : List Rec) → p r ≡ keep → low ≤ r.id → RisesFrom (r.id + 1) (map (λ x. x.id) (filter p records))
    → RisesFrom low (map (λ x. x.id) (filter p (r ∷ records)))
kept low true r p records is above rises = rw is (above, rises)
kept low false r p records is above rises = rw is (lower (r.id + 1) low (map (λ x. x.id) (filter p records)) (omega (arith, above)) rises)

filter-rises : (p : Rec → Bool) (low : ℕ) (records : List Rec) → RisesFrom low (map (λ x. x.id) records) → RisesFrom low (map (λ x. x.id) (filter p records))
filter-rises p low [] rises = tt
filter-rises p low (r ∷ records) rises = kept low (p r) r p records refl rises.0 (filter-rises p (r.id + 1) records rises.1)

-- the live records that pass a test have rising ids
passing_rise : (w : WorldView) (p : Rec → Bool) → IsLinked w → HaveRisingIds (filter p (live_in w.records))
passing_rise w p linked =
    increasing 0 (map (λ r. r.id) (filter p (live_in w.records)))
    (filter-rises p 0 (live_in w.records) (ids-rise 0 w.records (λ i r e. (linked.entries i r e).own_id ∙ omega arith)))

pub near_ids_rise : NearIdsRise
near_ids_rise w region except linked = passing_rise w (is_near region except) linked

pub touching_ids_rise : TouchingIdsRise
touching_ids_rise w abs linked = passing_rise w (is_touched abs) linked
