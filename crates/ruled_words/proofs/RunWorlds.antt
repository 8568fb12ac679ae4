-- The world of a closed table's words is that of the run.
use Rattle.std.proofs.Common.{◌≡◌, ℕ, zero, suc, true, All, List, [], ◌∷◌, map, refl, sym, ap, ◌∙◌, subst, Option, Some, None}
use Rattle.std.specs.List.{AllByRecursion}
use Rattle.std.specs.List.Sorted.{IsStrictlyIncreasing}
use Rattle.std.specs.Option.{option_map}
use Rattle.std.proofs.lemmas.Bool.{eq-eqb, or_left, or_right}
use Rattle.std.proofs.lemmas.List.Elements.{All-from_recursion}
use Rattle.std.proofs.lemmas.Option.{none-some, same_Some}
use Rattle.entity_recs.specs.declared.rec.Rec.{Rec}
use Rattle.entity_recs.specs.Worlds.{World}
use Rattle.move_journal.specs.Lists.{IsWorldOf}
use Rattle.world_tree.specs.Live.{record_at, live_in, IsEntry}
use Rattle.world_tree.specs.Worlds.{WorldView, record_of}
use Rattle.core_steps.specs.Nodes.{Fixed, has}
use Rattle.core_steps.specs.Reads.{View}
use Rattle.core_steps.specs.Stands.{IsStart}
use Rattle.core_steps.proofs.Runs.{ids_of_records}
use Rattle.core_seats.proofs.NearLists.{AreFound, found_at_ids}
use Rattle.ruled_words.specs.Starts.{world_at_start}
use Rattle.ruled_words.specs.Ends.{record_in, Closes, ClosesInto}

-- where each place has what the function makes of the other's record, so have the live records
live_mapped : (f : Rec → Rec) (xs ys : List (Option Rec)) → ((i : ℕ) → record_at ys i ≡ option_map f (record_at xs i)) → live_in ys ≡ map f (live_in xs)
live_mapped f [] [] same = refl
live_mapped f [] (None ∷ ys) same = live_mapped f [] ys (λ i. same (suc i))
live_mapped f [] (Some y ∷ ys) same = absurd (none-some y (sym (same 0)))
live_mapped f (None ∷ xs) [] same = live_mapped f xs [] (λ i. same (suc i))
live_mapped f (None ∷ xs) (None ∷ ys) same = live_mapped f xs ys (λ i. same (suc i))
live_mapped f (None ∷ xs) (Some y ∷ ys) same = absurd (none-some y (sym (same 0)))
live_mapped f (Some x ∷ xs) [] same = absurd (none-some (f x) (same 0))
live_mapped f (Some x ∷ xs) (None ∷ ys) same = absurd (none-some (f x) (same 0))
live_mapped f (Some x ∷ xs) (Some y ∷ ys) same =
    ap (λ (r : Rec). r ∷ live_in ys) (same_Some y (f x) (same 0)) ∙ ap (λ (rs : List Rec). f x ∷ rs) (live_mapped f xs ys (λ i. same (suc i)))

-- two functions that agree on the ids of a list
map_same : (g h : ℕ → Rec) (ids : List ℕ) → ((id : ℕ) → has ids id ≡ true → g id ≡ h id) → map g ids ≡ map h ids
map_same g h [] same = refl
map_same g h (id ∷ ids) same =
    ap (λ (r : Rec). r ∷ map g ids) (same id (or_left _ _ (eq-eqb id id refl)))
    ∙ ap (λ (rs : List Rec). h id ∷ rs) (map_same g h ids (λ v live. same v (or_right _ _ live)))

-- records that are found at their ids
found_mapped : (f : Rec → Rec) (g : ℕ → Rec) (rs : List Rec) → AreFound g rs → map (λ (id : ℕ). f (g id)) (map (λ (r : Rec). r.id) rs) ≡ map f rs
found_mapped f g [] found = refl
found_mapped f g (r ∷ rs) found =
    ap (λ (x : Rec). f x ∷ map (λ (id : ℕ). f (g id)) (map (λ (y : Rec). y.id) rs)) found.0
    ∙ ap (λ (xs : List Rec). f r ∷ xs) (found_mapped f g rs found.1)

-- a live record, found at its id, which is among the ids
record IsFound (g : ℕ → Rec) (ids : List ℕ) (r : Rec) : Type 0 where
  pub listed : has ids r.id ≡ true
  pub found : g r.id ≡ r

all_found : (g : ℕ → Rec) (ids : List ℕ) (rs : List Rec) → AreFound g rs → ((v : ℕ) → has (map (λ (r : Rec). r.id) rs) v ≡ true → has ids v ≡ true) → AllByRecursion (IsFound g ids) rs
all_found g ids [] found listed = tt
all_found g ids (r ∷ rs) found listed = (
  record { listed = listed r.id (or_left _ _ (eq-eqb r.id r.id refl)); found = found.0 },
  all_found g ids rs found.1 (λ v h. listed v (or_right _ _ h)),
)

live_at : (P : Rec → Type 0) (records : List (Option Rec)) (id : ℕ) (r : Rec) → AllByRecursion P (live_in records) → record_at records id ≡ Some r → P r
live_at P [] id r all at = absurd (none-some r at)
live_at P (None ∷ records) zero r all at = absurd (none-some r at)
live_at P (None ∷ records) (suc id) r all at = live_at P records id r all at
live_at P (Some x ∷ records) zero r all at = subst P (same_Some x r at) all.0
live_at P (Some x ∷ records) (suc id) r all at = live_at P records id r all.1 at

module _ (F : Fixed) (words : List ℕ) (now : World) (before : WorldView) (starts : F.start ≡ world_at_start before) (start : IsStart F)
    (ids : now.ids ≡ F.start.ids) (entry : (id : ℕ) → has F.start.ids id ≡ true → IsEntry id (now.record_of id))
    (read : (id : ℕ) → has F.start.ids id ≡ true → record_in words (F.start.record_of id) ≡ now.record_of id) where
  ids_are : F.start.ids ≡ map (λ (r : Rec). r.id) (live_in before.records)
  ids_are = ap (λ (w : World). w.ids) starts

  found : AreFound F.start.record_of (live_in before.records)
  found =
      subst (λ (w : World). AreFound w.record_of (live_in before.records)) (sym starts)
      (found_at_ids (live_in before.records) (subst IsStrictlyIncreasing ids_are start.rising))

  -- what the words have in place of a live record has its id
  pub entry_in_place : (id : ℕ) (r : Rec) → record_of before id ≡ Some r → IsEntry r.id (record_in words r)
  entry_in_place id r at =
      let here = live_at (IsFound F.start.record_of F.start.ids) before.records id r (all_found F.start.record_of F.start.ids (live_in before.records) found (λ v h. subst (λ (xs : List ℕ). has xs v ≡ true) (sym ids_are) h)) at in
      subst (IsEntry r.id) (sym (read r.id here.listed) ∙ ap (record_in words) here.found) (entry r.id here.listed)

  records_now : map now.record_of now.ids ≡ map (record_in words) (live_in before.records)
  records_now =
      ap (map now.record_of) ids
      ∙ map_same now.record_of (λ id. record_in words (F.start.record_of id)) F.start.ids (λ id live. sym (read id live))
      ∙ ap (map (λ (id : ℕ). record_in words (F.start.record_of id))) ids_are
      ∙ found_mapped (record_in words) F.start.record_of (live_in before.records) found

  pub world_now : (after : WorldView) → ((id : ℕ) → record_of after id ≡ option_map (record_in words) (record_of before id)) → IsWorldOf now (live_in after.records)
  world_now after records =
      let live = records_now ∙ sym (live_mapped (record_in words) before.records after.records records) in
      let own = ids_of_records now.record_of now.ids (λ v h. (entry v (subst (λ (xs : List ℕ). has xs v ≡ true) ids h)).own_id) in
      record { ids = sym own ∙ ap (map (λ (r : Rec). r.id)) live; records = live }

-- what holds of the record of each id of a list
all_taken : (P : Rec → Type 0) (f : ℕ → Rec) (ids : List ℕ) → ((id : ℕ) → has ids id ≡ true → P (f id)) → AllByRecursion P (map f ids)
all_taken P f [] each = tt
all_taken P f (id ∷ ids) each = (each id (or_left _ _ (eq-eqb id id refl)), all_taken P f ids (λ v live. each v (or_right _ _ live)))

-- the world whose live records are those of the run
pub closes_into : (F : Fixed) (words : List ℕ) (view : View) (closes : Closes F words view) (world : WorldView) → IsWorldOf closes.now (live_in world.records) → ClosesInto F world view
closes_into F words view closes world now = record {
  history = closes.history;
  legal = closes.legal;
  items = closes.items;
  rising = closes.rising;
  run_is = subst (λ (w : World). IsWorldOf w (live_in world.records)) closes.tied now;
  taken = subst (λ (rs : List Rec). All (λ (r : Rec). F.takes r ≡ true) rs) now.records
      (All-from_recursion (λ (r : Rec). F.takes r ≡ true) (map closes.now.record_of closes.now.ids)
      (all_taken (λ (r : Rec). F.takes r ≡ true) closes.now.record_of closes.now.ids (λ id live. closes.taken id (subst (λ (ids : List ℕ). has ids id ≡ true) closes.ids live))));
}
