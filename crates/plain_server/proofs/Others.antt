-- The other live records of a move: those that a query over the arena's bounds gives.
use Rattle.std.specs.Prelude.{◌≡◌, ℕ, zero, suc, ◌==◌, false, not, List, [], ◌∷◌, filter, Option, Some, None}
use Rattle.std.specs.Prelude.{map as map_list}
use Rattle.std.specs.List.{AllByRecursion}
use Rattle.std.specs.List.Sorted.{IsStrictlyIncreasing}
use Rattle.std.proofs.Common.{refl, sym, ap, ◌∙◌, subst, inl, inr}
use Rattle.std.proofs.lemmas.Bool.{cases_Bool}
use Rattle.std.proofs.lemmas.List.Kept.{IsStrictlyIncreasing-filter}
use Rattle.entity_recs.specs.declared.rec.Rec.{Rec}
use Rattle.entity_recs.specs.Worlds.{others_of, record_or_nobody}
use Rattle.world_tree.proofs.Rising.{ids_rise}
use Rattle.world_tree.specs.Live.{record_at, live_in, ids_of}
use Rattle.plain_server.specs.RecordsById.{world_of}

-- what holds of each record at its place holds of all live records
pub each_live : (P : Rec → Type 0) (records : List (Option Rec)) → ((k : ℕ) (r : Rec) → record_at records k ≡ Some r → P r) → AllByRecursion P (live_in records)
each_live P [] each = tt
each_live P (None ∷ records) each = each_live P records (λ k r at. each (suc k) r at)
each_live P (Some x ∷ records) each = (each zero x refl, each_live P records (λ k r at. each (suc k) r at))

-- the records but one, where the function gives each at its id
given_others : (f : ℕ → Rec) (rs : List Rec) (slot : ℕ) → AllByRecursion (λ r. f r.id ≡ r) rs
    → map_list f (filter (λ other. not (other == slot)) (map_list (λ (r : Rec). r.id) rs)) ≡ filter (λ (r : Rec). not (r.id == slot)) rs
given_others f [] slot given = refl
given_others f (r ∷ rs) slot given =
    let head : f r.id ≡ r = given.0 in
    let tail = given_others f rs slot given.1 in
    elim (cases_Bool (r.id == slot)) [ inl e ↦ rw e tail | inr e ↦ rw e (λ i. head i ∷ tail i) ]

-- what holds of the records with other ids
pub all_but : (P : Rec → Type 0) (slot : ℕ) (rs : List Rec) → AllByRecursion (λ r. (r.id == slot) ≡ false → P r) rs → AllByRecursion P (filter (λ (r : Rec). not (r.id == slot)) rs)
all_but P slot [] all = tt
all_but P slot (r ∷ rs) all =
    let rest = all_but P slot rs all.1 in
    elim (cases_Bool (r.id == slot)) [ inl e ↦ rw e rest | inr e ↦ rw e (all.0 e, rest) ]

-- the other live records of a world are the live records with other ids
pub others-are : (records : List (Option Rec)) (slot : ℕ) → ((id : ℕ) (r : Rec) → record_at records id ≡ Some r → r.id ≡ id)
    → others_of (world_of records) slot ≡ filter (λ (r : Rec). not (r.id == slot)) (live_in records)
others-are records slot own =
    given_others (world_of records).record_of (live_in records) slot
    (each_live (λ r. record_or_nobody (record_at records r.id) ≡ r) records
    (λ k r at. ap (λ (id : ℕ). record_or_nobody (record_at records id)) (own k r at) ∙ ap record_or_nobody at))

-- the ids of records with other ids are the other ids
ids_but : (slot : ℕ) (rs : List Rec) → map_list (λ (r : Rec). r.id) (filter (λ (r : Rec). not (r.id == slot)) rs) ≡ filter (λ id. not (id == slot)) (map_list (λ (r : Rec). r.id) rs)
ids_but slot [] = refl
ids_but slot (r ∷ rs) =
    let rest = ids_but slot rs in
    elim (cases_Bool (r.id == slot)) [ inl e ↦ rw e rest | inr e ↦ rw e (ap (λ (ids : List ℕ). r.id ∷ ids) rest) ]

-- the ids of the other live records rise
pub others_rise : (records : List (Option Rec)) (slot : ℕ) → ((id : ℕ) (r : Rec) → record_at records id ≡ Some r → r.id ≡ id)
    → IsStrictlyIncreasing (map_list (λ (r : Rec). r.id) (others_of (world_of records) slot))
others_rise records slot own =
    let ids : map_list (λ (r : Rec). r.id) (others_of (world_of records) slot) ≡ filter (λ id. not (id == slot)) (ids_of records) = ap (map_list (λ (r : Rec). r.id)) (others-are records slot own) ∙ ids_but slot (live_in records) in
    subst IsStrictlyIncreasing (sym ids) (IsStrictlyIncreasing-filter (λ id. not (id == slot)) (ids_of records) (ids_rise records own))

-- a record is at the place of its id, which is another one
pub record IsOther (records : List (Option Rec)) (slot : ℕ) (r : Rec) : Type 0 where
  pub at : record_at records r.id ≡ Some r
  pub apart : (r.id == slot) ≡ false

-- so is each of the other live records of a world
pub others_at : (records : List (Option Rec)) (slot : ℕ) → ((id : ℕ) (r : Rec) → record_at records id ≡ Some r → r.id ≡ id)
    → AllByRecursion (IsOther records slot) (others_of (world_of records) slot)
others_at records slot own =
    subst (AllByRecursion (IsOther records slot)) (sym (others-are records slot own))
    (all_but (IsOther records slot) slot (live_in records)
    (each_live (λ r. (r.id == slot) ≡ false → IsOther records slot r) records (λ k r at apart. record { at = ap (record_at records) (own k r at) ∙ at; apart = apart })))
