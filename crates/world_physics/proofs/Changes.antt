-- Records by id, changed one after another.
use Rattle.std.specs.Prelude.{◌≡◌, ℕ, ◌+◌, ◌<◌, ◌≤◌, List, length, Option, Some, None, slice_set, slice_index_or, is_some, IsSome}
use Rattle.std.specs.Option.{option_map}
use Rattle.std.proofs.Common.{refl, sym, ap, ◌∙◌, inl, inr, arith, get_or-set_same, get_or-set_other}
use Rattle.std.proofs.lemmas.Bool.{cases_eq, cases_lt}
use Rattle.std.proofs.lemmas.List.{same_lists, get_or_default, get_or_past, length-map, length-set, set-set, set-get_or}
use Rattle.std.proofs.lemmas.Option.{none-some, same_Some}
use Rattle.std.proofs.Math.ListN as lists
use Rattle.entity_recs.specs.declared.rec.Rec.{Rec}
use Rattle.world_tree.specs.Live.{record_at, IsEntry}
use Rattle.world_tree.specs.Worlds.{WorldView, IsLinked, with_record, without_id}
use Rattle.world_physics.specs.Returns.{each_changed, changed_at}

-- the record at each place is the changed one
pub at-changed : (f : Rec → Rec) (records : List (Option Rec)) (id : ℕ) → record_at (each_changed f records) id ≡ option_map f (record_at records id)
at-changed f records id = lists.get_or-map (option_map f) records id None

pub length-changed : (f : Rec → Rec) (records : List (Option Rec)) → length (each_changed f records) ≡ length records
length-changed f records = length-map records (option_map f)

-- what a changed record was
pub record WasBefore (f : Rec → Rec) (records : List (Option Rec)) (id : ℕ) (r : Rec) : Type 0 where
  pub was : Rec
  pub at : record_at records id ≡ Some was
  pub is : r ≡ f was

pub was_before : (f : Rec → Rec) (records : List (Option Rec)) (id : ℕ) (r : Rec) → record_at (each_changed f records) id ≡ Some r → WasBefore f records id r
was_before f records id r at = by (record_at records id) refl (sym (at-changed f records id) ∙ at)
  where
    by : (o : Option Rec) → record_at records id ≡ o → option_map f o ≡ Some r → WasBefore f records id r
    by None e h = absurd (none-some r h)
    by (Some was) e h = record { was = was; at = e; is = sym (same_Some (f was) r h) }

-- the records below an id are changed, and those from it on are as they were
pub record IsChangedBelow (f : Rec → Rec) (id : ℕ) (old new : List (Option Rec)) : Type 0 where
  pub count : length new ≡ length old
  pub below : (k : ℕ) → k < id → record_at new k ≡ option_map f (record_at old k)
  pub rest : (k : ℕ) → id ≤ k → record_at new k ≡ record_at old k

pub changed_none : (f : Rec → Rec) (records : List (Option Rec)) → IsChangedBelow f 0 records records
changed_none f records = record { count = refl; below = λ k h. absurd (omega (arith, h)); rest = λ k h. refl }

-- one place that is written
pub at-place : (records : List (Option Rec)) (id : ℕ) (f : Rec → Rec) → record_at (changed_at f records id) id ≡ option_map f (record_at records id)
at-place records id f = elim (cases_lt id (length records)) [
  | inl within ↦ get_or-set_same records id (option_map f (record_at records id)) None within
  | inr past ↦
      let nothing = get_or_past records id None past in
      get_or_past (changed_at f records id) id None (omega (arith, past, length-set records id (option_map f (record_at records id)))) ∙ sym (ap (option_map f) nothing)
]

-- one record more
pub changed_more : (f : Rec → Rec) (id next : ℕ) (old new : List (Option Rec)) → next ≡ id + 1 → IsChangedBelow f id old new → IsChangedBelow f next old (changed_at f new id)
changed_more f id next old new next_is is = record {
  count = length-set new id (option_map f (record_at new id)) ∙ is.count;
  below = λ k h. elim (cases_eq k id) [
    | inl here ↦
        ap (record_at (changed_at f new id)) here
        ∙ at-place new id f
        ∙ ap (option_map f) (is.rest id (omega arith))
        ∙ sym (ap (λ j. option_map f (record_at old j)) here)
    | inr other ↦ get_or-set_other new id k (option_map f (record_at new id)) None other ∙ is.below k (omega (arith, h, other, next_is))
  ];
  rest = λ k h. get_or-set_other new id k (option_map f (record_at new id)) None (λ same. absurd (omega (arith, h, same, next_is))) ∙ is.rest k (omega (arith, h, next_is));
}

-- where those from the id on don't change, all are changed
pub changed_all : (f : Rec → Rec) (id : ℕ) (old new : List (Option Rec)) → IsChangedBelow f id old new
    → ((k : ℕ) (r : Rec) → id ≤ k → record_at old k ≡ Some r → f r ≡ r) → new ≡ each_changed f old
changed_all f id old new is same = same_lists new (each_changed f old) (is.count ∙ sym (length-changed f old)) at
  where
    stays : (k : ℕ) → id ≤ k → (o : Option Rec) → record_at old k ≡ o → o ≡ option_map f o
    stays k past None e = refl
    stays k past (Some r) e = sym (ap Some (same k r past e))

    place : (k : ℕ) → record_at new k ≡ option_map f (record_at old k)
    place k = elim (cases_lt k id) [
      | inl below ↦ is.below k below
      | inr past ↦ is.rest k past ∙ stays k past (record_at old k) refl
    ]

    at : (k : ℕ) (d : Option Rec) → k < length new → slice_index_or new k d ≡ slice_index_or (each_changed f old) k d
    at k d within =
        get_or_default new k d None within
        ∙ place k
        ∙ sym (at-changed f old k)
        ∙ sym (get_or_default (each_changed f old) k d None (omega (arith, within, is.count, length-changed f old)))

-- relinking puts the new record at its place
pub relinked : (records : List (Option Rec)) (id : ℕ) (r : Rec) → slice_set (slice_set records id None) id (Some r) ≡ slice_set records id (Some r)
relinked records id r = set-set records id None (Some r)

-- at a live id
pub changed-live : (f : Rec → Rec) (records : List (Option Rec)) (id : ℕ) (r : Rec) → record_at records id ≡ Some r → slice_set records id (Some (f r)) ≡ changed_at f records id
changed-live f records id r at = ap (λ o. slice_set records id (option_map f o)) (sym at)

-- where nothing changes
pub changed-same : (f : Rec → Rec) (records : List (Option Rec)) (id : ℕ) → option_map f (record_at records id) ≡ record_at records id → records ≡ changed_at f records id
changed-same f records id same = sym (ap (slice_set records id) same ∙ set-get_or records id None)

-- ---- the linked world

-- what a world's entries say of the record of an id
pub is_entry : (w : WorldView) (id : ℕ) (r : Rec) → IsLinked w → record_at w.records id ≡ Some r → IsEntry id r
is_entry w id r linked at = linked.entries id r at

-- a record with the id of a live one is live
pub live_with : (records : List (Option Rec)) (id : ℕ) (r next : Rec) → record_at records id ≡ Some r → next.id ≡ id → IsSome (record_at records next.id)
live_with records id r next at own = ap (λ (k : ℕ). is_some (record_at records k)) own ∙ ap is_some at

-- where a record is relinked, the records are changed at its id
pub relinked-changed : (w new : WorldView) (f : Rec → Rec) (id : ℕ) (r next : Rec) → record_at w.records id ≡ Some r → next ≡ f r → next.id ≡ id
    → new ≡ with_record (without_id w next.id) next → new.records ≡ changed_at f w.records id
relinked-changed w new f id r next at is own made =
    ap (λ (v : WorldView). v.records) made
    ∙ relinked w.records next.id next
    ∙ ap (λ (k : ℕ). slice_set w.records k (Some next)) own
    ∙ ap (λ (n : Rec). slice_set w.records id (Some n)) is
    ∙ changed-live f w.records id r at
