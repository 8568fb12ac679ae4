-- The world of live records, as a table and as a server has it, and the records after a run.
use Rattle.std.proofs.Common.{◌≡◌, ℕ, zero, suc, ◌+◌, ◌<◌, ◌≤◌, ◌==◌, Bool, true, false, List, [], ◌∷◌, length, map, Option, Some, None, refl, sym, ap, ◌∙◌, subst, arith}
use Rattle.std.specs.Prelude.{◌||◌}
use Rattle.std.specs.Option.{option_map}
use Rattle.std.proofs.lemmas.Bool.{cond-true, cond-false, eq-eqb, ne_eqb}
use Rattle.entity_recs.specs.declared.rec.Rec.{Rec}
use Rattle.entity_recs.specs.Commands.{Command}
use Rattle.entity_recs.specs.Worlds.{World, nobody, record_with, record_or_nobody}
use Rattle.entity_recs.specs.Worlds as worlds
use Rattle.entity_recs.specs.Histories.{Action, Item, apply, run, world_after}
use Rattle.move_journal.specs.Lists.{IsWorldOf}
use Rattle.world_tree.specs.Live.{record_at, live_in, ids_of, AreEntries}
use Rattle.core_steps.specs.Nodes.{has}
use Rattle.plain_server.specs.RecordsById.{world_of, records_in}

-- the record at each place has that number, counted from this one
abbrev HaveIdsFrom : ℕ → List (Option Rec) → Type 0
HaveIdsFrom n records = (k : ℕ) (r : Rec) → record_at records k ≡ Some r → r.id ≡ n + k

ids_after : (n : ℕ) (place : Option Rec) (records : List (Option Rec)) → HaveIdsFrom n (place ∷ records) → HaveIdsFrom (n + 1) records
ids_after n place records own k r at = let later = own (suc k) r at in omega (arith, later)

id_first : (n : ℕ) (x : Rec) (records : List (Option Rec)) → HaveIdsFrom n (Some x ∷ records) → x.id ≡ n
id_first n x records own = let first = own 0 x refl in omega (arith, first)

-- an id below the first place is none of the ids
none_below : (n m : ℕ) (records : List (Option Rec)) → HaveIdsFrom n records → m < n → record_with (live_in records) m ≡ nobody
none_below n m [] own below = refl
none_below n m (None ∷ records) own below = none_below (n + 1) m records (ids_after n None records own) (omega (arith, below))
none_below n m (Some x ∷ records) own below =
    let first = id_first n x records own in
    cond-false (x.id == m) x (record_with (live_in records) m) (ne_eqb x.id m (λ same. omega (arith, below, first, same)))
    ∙ none_below (n + 1) m records (ids_after n (Some x) records own) (omega (arith, below))

-- the live record of an id is the one at its place
found_from : (n k id : ℕ) (records : List (Option Rec)) → HaveIdsFrom n records → id ≡ n + k
    → record_with (live_in records) id ≡ record_or_nobody (record_at records k)
found_from n k id [] own is = refl
found_from n zero id (None ∷ records) own is =
    none_below (n + 1) id records (ids_after n None records own) (omega (arith, is))
found_from n (suc k) id (None ∷ records) own is =
    found_from (n + 1) k id records (ids_after n None records own) (omega (arith, is))
found_from n zero id (Some x ∷ records) own is =
    let first = id_first n x records own in
    cond-true (x.id == id) x (record_with (live_in records) id) (eq-eqb x.id id (omega (arith, is, first)))
found_from n (suc k) id (Some x ∷ records) own is =
    let first = id_first n x records own in
    cond-false (x.id == id) x (record_with (live_in records) id) (ne_eqb x.id id (λ same. omega (arith, is, first, same)))
    ∙ found_from (n + 1) k id records (ids_after n (Some x) records own) (omega (arith, is))

from_zero : (records : List (Option Rec)) → AreEntries records → HaveIdsFrom 0 records
from_zero records entries k r at = let own = (entries k r at).own_id in omega (arith, own)

-- the world of the live records is the world of the records by id
pub start_world_is : (records : List (Option Rec)) → AreEntries records → worlds.world_of (live_in records) ≡ world_of records
start_world_is records entries = λ i. record {
  ids = ids_of records;
  record_of = λ id. found_from 0 id id records (from_zero records entries) (from_first id) i;
}
  where
    from_first : (id : ℕ) → id ≡ 0 + id
    from_first id = omega arith

-- a live id is one of the ids
pub live_is_listed : (records : List (Option Rec)) (k : ℕ) (r : Rec) → record_at records k ≡ Some r → has (ids_of records) r.id ≡ true
live_is_listed [] k r at = cc
live_is_listed (None ∷ records) zero r at = cc
live_is_listed (None ∷ records) (suc k) r at = live_is_listed records k r at
live_is_listed (Some x ∷ records) zero r at =
    let same : x ≡ r = cc in
    let here : (x.id == r.id) ≡ true = eq-eqb x.id r.id (ap (λ (y : Rec). y.id) same) in
    rw here refl
live_is_listed (Some x ∷ records) (suc k) r at =
    let later = live_is_listed records k r at in
    by (x.id == r.id) later
  where
    by : (b : Bool) → has (ids_of records) r.id ≡ true → (b || has (ids_of records) r.id) ≡ true
    by true later = refl
    by false later = later

-- commands leave the live ids
ids_kept : (act : Action) (w : World) (commands : List Command) → (world_after act w commands).ids ≡ w.ids
ids_kept act w [] = refl
ids_kept act w (c ∷ commands) = ids_kept act (apply act w c) commands

-- the first of the live ids isn't below the first place
first_from : (n id : ℕ) (ids : List ℕ) (records : List (Option Rec)) → HaveIdsFrom n records → ids_of records ≡ id ∷ ids → n ≤ id
first_from n id ids [] own is = cc
first_from n id ids (None ∷ records) own is =
    let later = first_from (n + 1) id ids records (ids_after n None records own) is in
    omega (arith, later)
first_from n id ids (Some x ∷ records) own is =
    let first = id_first n x records own in
    let same : x.id ≡ id = cc in
    omega (arith, first, same)

-- records with the live ids of others, each of which the function gives at its id
records_from : (n : ℕ) (f : ℕ → Rec) (old new : List (Option Rec)) → length new ≡ length old → HaveIdsFrom n old → HaveIdsFrom n new
    → ids_of new ≡ ids_of old → map f (ids_of new) ≡ live_in new → new ≡ map (option_map (λ (r : Rec). f r.id)) old
records_from n f [] [] count own_old own_new same given = refl
records_from n f [] (y ∷ new) count own_old own_new same given = absurd (omega (arith, count))
records_from n f (x ∷ old) [] count own_old own_new same given = absurd (omega (arith, count))
records_from n f (None ∷ old) (None ∷ new) count own_old own_new same given =
    let rest =
    records_from (n + 1) f old new (omega (arith, count)) (ids_after n None old own_old) (ids_after n None new own_new) same given in
    ap (λ (rs : List (Option Rec)). None ∷ rs) rest
records_from n f (Some x ∷ old) (Some y ∷ new) count own_old own_new same given =
    let id : y.id ≡ x.id = cc in
    let ids : ids_of new ≡ ids_of old = cc in
    let here : f y.id ≡ y = cc in
    let there : map f (ids_of new) ≡ live_in new = cc in
    let rest =
    records_from (n + 1) f old new (omega (arith, count)) (ids_after n (Some x) old own_old) (ids_after n (Some y) new own_new) ids there in
    let mine : y ≡ f x.id = sym here ∙ ap f id in
    λ i. Some (mine i) ∷ rest i
records_from n f (None ∷ old) (Some y ∷ new) count own_old own_new same given =
    let first = id_first n y new own_new in
    let least = first_from (n + 1) y.id (ids_of new) old (ids_after n None old own_old) (sym same) in
    absurd (omega (arith, first, least))
records_from n f (Some x ∷ old) (None ∷ new) count own_old own_new same given =
    let first = id_first n x old own_old in
    let least = first_from (n + 1) x.id (ids_of old) new (ids_after n None new own_new) same in
    absurd (omega (arith, first, least))

-- records that are those of a run have each live record as it is in the run
pub records_are : (act : Action) (w : World) (history : List Item) (old new : List (Option Rec)) → AreEntries old → AreEntries new
    → length new ≡ length old → w ≡ world_of old → IsWorldOf (run act w history) (live_in new) → new ≡ records_in (run act w history) old
records_are act w history old new entries_old entries_new count start of =
    let ids : (run act w history).ids ≡ ids_of old = ids_kept act w (map (λ (item : Item). item.command) history) ∙ ap (λ (v : World). v.ids) start in
    records_from 0 (run act w history).record_of old new count (from_zero old entries_old) (from_zero new entries_new)
    (sym of.ids ∙ ids)
    (subst (λ (known : List ℕ). map (run act w history).record_of known ≡ live_in new) of.ids of.records)
