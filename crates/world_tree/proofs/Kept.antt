-- What a world keeps beside its records: it stays right when a record is put in, taken out or put in another's place.
use Rattle.std.proofs.Common.{◌≡◌, ℕ, zero, suc, ◌+◌, ◌<◌, ◌≤◌, true, false, nat_lt, if◌then◌else◌, List, [], ◌∷◌, length, replicate, Option, Some, None, IsSome, slice_set, zero-add, sym, refl, ap, ◌∙◌, subst, arith}
use Rattle.std.specs.List.{insert, remove}
use Rattle.std.specs.Option.{option_map}
use Rattle.std.proofs.lemmas.Bool.{false≢true, lt-ltb, le-ltb}
use Rattle.std.proofs.lemmas.List.{map-set, set-set}
use Rattle.std.proofs.lemmas.Option.{none-some, same_Some}
use Rattle.arena_geo.specs.Bounds.{Bounds}
use Rattle.areanode.specs.Trees.{nodes_in, node_of}
use Rattle.entity_recs.specs.declared.limits.TheConstants.{IDS}
use Rattle.entity_recs.specs.declared.rec.Rec.{Rec}
use Rattle.entity_recs.specs.Kinds.{is_solid}
use Rattle.entity_recs.specs.Records.{IsRecord}
use Rattle.entity_recs.specs.Bodies.{abs_of}
use Rattle.link_lists.specs.Pool.{ListsView, lists_after_insert, lists_after_remove, IsProper, SetsOnly}
use Rattle.world_tree.specs.Live.{record_at, ids_of, boxes_of, place_in}
use Rattle.world_tree.specs.Worlds.{WorldView, world_of, record_of, list_for, IsLinked, IsKept, with_record, without_id}
use Rattle.world_tree.proofs.Links.{id-below, linked_with, linked_without}
use Rattle.world_tree.proofs.Rising.{RisesFrom, ids-rise}

-- each record has the id of its place, counted from here on
abbrev HaveIdsFrom : ℕ → List (Option Rec) → Type 0
HaveIdsFrom start records = (i : ℕ) (r : Rec) → record_at records i ≡ Some r → r.id ≡ start + i

later : (start : ℕ) (place : Option Rec) (records : List (Option Rec)) → HaveIdsFrom start (place ∷ records) → HaveIdsFrom (start + 1) records
later start place records own i r at = own (suc i) r at ∙ omega arith

-- an id that is below all others comes first
first-place : (low id : ℕ) (ids : List ℕ) → RisesFrom low ids → id ≤ low → place_in ids id ≡ 0
first-place low id [] rises below = refl
first-place low id (x ∷ ids) rises below =
    let t : nat_lt x id ≡ false = le-ltb x id (omega (arith, rises.0)) in
    rw t refl

-- an id after the first comes after it
next-place : (id x : ℕ) (ids : List ℕ) → x < id → place_in (x ∷ ids) id ≡ suc (place_in ids id)
next-place id x ids after = let t : nat_lt x id ≡ true = lt-ltb x id after in rw t refl

-- there are no more live ids than places
pub few_live : (records : List (Option Rec)) → length (ids_of records) ≤ length records
few_live [] = omega arith
few_live (None ∷ records) = omega (arith, few_live records)
few_live (Some r ∷ records) = omega (arith, few_live records)

-- and fewer where a place has no record
pub fewer_live : (records : List (Option Rec)) (i : ℕ) → i < length records → record_at records i ≡ None → length (ids_of records) < length records
fewer_live [] i below free = absurd (omega arith)
fewer_live (None ∷ records) zero below free = omega (arith, few_live records)
fewer_live (Some r ∷ records) zero below free = absurd (none-some r (sym free))
fewer_live (None ∷ records) (suc i) below free = omega (arith, fewer_live records i (omega arith) free)
fewer_live (Some r ∷ records) (suc i) below free = omega (arith, fewer_live records i (omega arith) free)

-- a record put in where there was none
ids-put : (start : ℕ) (records : List (Option Rec)) (i : ℕ) (r : Rec) → HaveIdsFrom start records → i < length records → record_at records i ≡ None → r.id ≡ start + i
    → ids_of (slice_set records i (Some r)) ≡ insert (ids_of records) (place_in (ids_of records) r.id) r.id
ids-put start [] i r own below free is = absurd (omega arith)
ids-put start (None ∷ records) zero r own below free is =
    let first = first-place (start + 1) r.id (ids_of records) (ids-rise (start + 1) records (later start None records own)) (omega arith) in
    rw first refl
ids-put start (Some x ∷ records) zero r own below free is = absurd (none-some x (sym free))
ids-put start (None ∷ records) (suc i) r own below free is =
    ids-put (start + 1) records i r (later start None records own) (omega arith) free (omega arith)
ids-put start (Some x ∷ records) (suc i) r own below free is =
    let here : x.id ≡ start + 0 = own 0 x refl in
    let next = next-place r.id x.id (ids_of records) (omega arith) in
    ap (λ (ids : List ℕ). x.id ∷ ids) (ids-put (start + 1) records i r (later start (Some x) records own) (omega arith) free (omega arith))
    ∙ ap (λ k. insert (x.id ∷ ids_of records) k r.id) (sym next)

-- a live id has its place among the live ids
place-within : (start : ℕ) (records : List (Option Rec)) (i : ℕ) (r : Rec) → HaveIdsFrom start records → record_at records i ≡ Some r
    → place_in (ids_of records) (start + i) < length (ids_of records)
place-within start [] i r own at = absurd (none-some r at)
place-within start (None ∷ records) zero r own at = absurd (none-some r at)
place-within start (Some x ∷ records) zero r own at =
    let t : nat_lt x.id (start + 0) ≡ false = le-ltb x.id (start + 0) (omega (arith, own 0 x refl)) in
    rw t (omega arith)
place-within start (None ∷ records) (suc i) r own at =
    let same : start + 1 + i ≡ start + suc i = omega arith in
    subst (λ n. place_in (ids_of records) n < length (ids_of records)) same (place-within (start + 1) records i r (later start None records own) at)
place-within start (Some x ∷ records) (suc i) r own at =
    let same : start + 1 + i ≡ start + suc i = omega arith in
    let rest = subst (λ n. place_in (ids_of records) n < length (ids_of records)) same (place-within (start + 1) records i r (later start (Some x) records own) at) in
    let next = next-place (start + suc i) x.id (ids_of records) (omega (arith, own 0 x refl)) in
    omega arith

-- a record taken out
ids-taken : (start : ℕ) (records : List (Option Rec)) (i : ℕ) (r : Rec) → HaveIdsFrom start records → record_at records i ≡ Some r
    → ids_of (slice_set records i None) ≡ remove (ids_of records) (place_in (ids_of records) (start + i))
ids-taken start [] i r own at = absurd (none-some r at)
ids-taken start (None ∷ records) zero r own at = absurd (none-some r at)
ids-taken start (Some x ∷ records) zero r own at =
    let t : nat_lt x.id (start + 0) ≡ false = le-ltb x.id (start + 0) (omega (arith, own 0 x refl)) in
    rw t refl
ids-taken start (None ∷ records) (suc i) r own at =
    let same : start + 1 + i ≡ start + suc i = omega arith in
    ids-taken (start + 1) records i r (later start None records own) at
    ∙ ap (λ n. remove (ids_of records) (place_in (ids_of records) n)) same
ids-taken start (Some x ∷ records) (suc i) r own at =
    let same : start + 1 + i ≡ start + suc i = omega arith in
    let next = next-place (start + suc i) x.id (ids_of records) (omega (arith, own 0 x refl)) in
    ap (λ (ids : List ℕ). x.id ∷ ids) (ids-taken (start + 1) records i r (later start (Some x) records own) at
    ∙ ap (λ n. remove (ids_of records) (place_in (ids_of records) n)) same)
    ∙ ap (λ k. remove (x.id ∷ ids_of records) k) (sym next)

-- a record put in place of one with its id
pub ids-kept : (records : List (Option Rec)) (i : ℕ) (old r : Rec) → record_at records i ≡ Some old → r.id ≡ old.id
    → ids_of (slice_set records i (Some r)) ≡ ids_of records
ids-kept [] i old r at same = absurd (none-some old at)
ids-kept (None ∷ records) zero old r at same = absurd (none-some old at)
ids-kept (Some x ∷ records) zero old r at same = ap (λ n. n ∷ ids_of records) (same ∙ ap (λ (y : Rec). y.id) (sym (same_Some x old at)))
ids-kept (None ∷ records) (suc i) old r at same = ids-kept records i old r at same
ids-kept (Some x ∷ records) (suc i) old r at same = ap (λ (ids : List ℕ). x.id ∷ ids) (ids-kept records i old r at same)

-- without records there are no boxes and no live ids
boxes-none : (n : ℕ) → boxes_of (replicate n None) ≡ replicate n None
boxes-none zero = refl
boxes-none (suc n) = ap (λ (boxes : List (Option Bounds)). None ∷ boxes) (boxes-none n)

ids-none : (n : ℕ) → ids_of (replicate n None) ≡ []
ids-none zero = refl
ids-none (suc n) = ids-none n

pub kept_empty : (w : WorldView) (boxes : List (Option Bounds)) (live : List ℕ) → IsLinked w → w.records ≡ replicate IDS None → boxes ≡ replicate IDS None → live ≡ []
    → IsKept w boxes live
kept_empty w boxes live linked none no_boxes no_ids = record {
  linked = linked;
  boxes_are = no_boxes ∙ sym (ap boxes_of none ∙ boxes-none IDS);
  live_are = no_ids ∙ sym (ap ids_of none ∙ ids-none IDS);
}

module _ (w : WorldView) (boxes : List (Option Bounds)) (live : List ℕ) (kept : IsKept w boxes live) where
  ids-own : HaveIdsFrom 0 w.records
  ids-own i r at = (kept.linked.entries i r at).own_id ∙ omega arith

  -- a box put where the record is put
  boxes-with : (r : Rec) (place : ℕ) (abs : Bounds) → abs ≡ abs_of r → slice_set boxes place (Some abs) ≡ boxes_of (slice_set w.records place (Some r))
  boxes-with r place abs is =
      ap (λ bs. slice_set bs place (Some abs)) kept.boxes_are ∙ ap (λ b. slice_set (boxes_of w.records) place (Some b)) is
      ∙ sym (map-set (option_map abs_of) w.records place (Some r))

  -- the live ids are no more than there are ids
  pub live_fit : length live ≤ IDS
  live_fit =
      let few = few_live w.records in
      omega (arith, ap (λ (l : List ℕ). length l) kept.live_are, kept.linked.places)

  -- there is room for one more id where an id isn't live
  pub room_for_id : (r : Rec) → IsRecord r → record_of w r.id ≡ None → length live < IDS
  room_for_id r is free =
      let fewer = fewer_live w.records r.id (omega (arith, id-below r is, kept.linked.places)) free in
      omega (arith, ap (λ (l : List ℕ). length l) kept.live_are, kept.linked.places)

  -- the list of a record, by its box
  list-by_box : (r : Rec) (k : ℕ) (abs : Bounds) → abs ≡ abs_of r → k ≡ (if is_solid r.kind then node_of w.tree abs else nodes_in w.tree.depth + node_of w.tree abs) → k ≡ list_for w.tree r
  list-by_box r k abs is list = list ∙ ap (λ b. if is_solid r.kind then node_of w.tree b else nodes_in w.tree.depth + node_of w.tree b) is

  pub kept_with : (r : Rec) (lists : ListsView) (k place : ℕ) (abs : Bounds) (more : List ℕ)
      → place ≡ r.id → IsRecord r → record_of w r.id ≡ None → abs ≡ abs_of r
      → k ≡ (if is_solid r.kind then node_of w.tree abs else nodes_in w.tree.depth + node_of w.tree abs) → lists ≡ lists_after_insert w.lists k r.id
      → SetsOnly w.lists lists r.id (Some k) → IsProper lists → more ≡ insert live (place_in live r.id) r.id
      → IsKept (world_of w.tree (slice_set w.records place (Some r)) lists) (slice_set boxes place (Some abs)) more
  kept_with r lists k place abs more own is free box list made sets proper grown = record {
    linked = linked_with w kept.linked r lists k place own is (list-by_box r k abs box list) made sets proper;
    boxes_are = boxes-with r place abs box;
    live_are =
        grown ∙ ap (λ (l : List ℕ). insert l (place_in l r.id) r.id) kept.live_are
        ∙ sym (ids-put 0 w.records r.id r ids-own (omega (arith, id-below r is, kept.linked.places)) free (omega arith))
        ∙ ap (λ i. ids_of (slice_set w.records i (Some r))) (sym own);
  }

  -- a live id has its place among the live ids
  pub id_within : (id : ℕ) → IsSome (record_of w id) → place_in live id < length live
  id_within id is = by_record (record_of w id) refl is
    where
      by_record : (o : Option Rec) → record_of w id ≡ o → IsSome o → place_in live id < length live
      by_record None at some = absurd (false≢true some)
      by_record (Some r) at some =
          let here = subst (λ n. place_in (ids_of w.records) n < length (ids_of w.records)) (zero-add id) (place-within 0 w.records id r ids-own at) in
          subst (λ l. place_in l id < length l) (sym kept.live_are) here

  live-without : (id : ℕ) → IsSome (record_of w id) → ids_of (slice_set w.records id None) ≡ remove live (place_in live id)
  live-without id is = by_record (record_of w id) refl is
    where
      by_record : (o : Option Rec) → record_of w id ≡ o → IsSome o → ids_of (slice_set w.records id None) ≡ remove live (place_in live id)
      by_record None at some = absurd (false≢true some)
      by_record (Some r) at some =
          ids-taken 0 w.records id r ids-own at ∙ ap (λ n. remove (ids_of w.records) (place_in (ids_of w.records) n)) (zero-add id)
          ∙ ap (λ (l : List ℕ). remove l (place_in l id)) (sym kept.live_are)

  pub kept_without : (id place : ℕ) (lists : ListsView) (less : List ℕ) → place ≡ id → IsSome (record_of w id)
      → lists ≡ lists_after_remove w.lists id → SetsOnly w.lists lists id None → IsProper lists → less ≡ remove live (place_in live id)
      → IsKept (world_of w.tree (slice_set w.records place None) lists) (slice_set boxes place None) less
  kept_without id place lists less own is made sets proper shorter = record {
    linked = linked_without w kept.linked id place lists own made sets proper;
    boxes_are = ap (λ bs. slice_set bs place None) kept.boxes_are ∙ sym (map-set (option_map abs_of) w.records place None);
    live_are = shorter ∙ sym (live-without id is) ∙ ap (λ i. ids_of (slice_set w.records i None)) (sym own);
  }

  live-again : (r : Rec) → IsSome (record_of w r.id) → live ≡ ids_of (slice_set w.records r.id (Some r))
  live-again r is = by_record (record_of w r.id) refl is
    where
      by_record : (o : Option Rec) → record_of w r.id ≡ o → IsSome o → live ≡ ids_of (slice_set w.records r.id (Some r))
      by_record None at some = absurd (false≢true some)
      by_record (Some old) at some =
          kept.live_are ∙ sym (ids-kept w.records r.id old r at (sym (kept.linked.entries r.id old at).own_id))

  -- a record put in place of the one with its id
  pub kept_again : (r : Rec) (cut lists : ListsView) (k place : ℕ) (abs : Bounds)
      → place ≡ r.id → IsRecord r → IsSome (record_of w r.id) → abs ≡ abs_of r
      → cut ≡ lists_after_remove w.lists r.id → SetsOnly w.lists cut r.id None → IsProper cut
      → k ≡ (if is_solid r.kind then node_of w.tree abs else nodes_in w.tree.depth + node_of w.tree abs) → lists ≡ lists_after_insert cut k r.id
      → SetsOnly cut lists r.id (Some k) → IsProper lists
      → IsKept (world_of w.tree (slice_set w.records place (Some r)) lists) (slice_set boxes place (Some abs)) live
  kept_again r cut lists k place abs own is live_id box unlinked cut_sets cut_proper list made sets proper = record {
    linked =
        let without = linked_without w kept.linked r.id place cut own unlinked cut_sets cut_proper in
        let again = linked_with (world_of w.tree (slice_set w.records place None) cut) without r lists k place own is (list-by_box r k abs box list) made sets proper in
        subst (λ rs. IsLinked (world_of w.tree rs lists)) (set-set w.records place None (Some r)) again;
    boxes_are = boxes-with r place abs box;
    live_are = live-again r live_id ∙ ap (λ i. ids_of (slice_set w.records i (Some r))) (sym own);
  }

  -- it is the world without the old record, with the new one
  pub world_again : (r : Rec) (cut lists : ListsView) (k place : ℕ) (abs : Bounds)
      → place ≡ r.id → abs ≡ abs_of r → cut ≡ lists_after_remove w.lists r.id
      → k ≡ (if is_solid r.kind then node_of w.tree abs else nodes_in w.tree.depth + node_of w.tree abs) → lists ≡ lists_after_insert cut k r.id
      → world_of w.tree (slice_set w.records place (Some r)) lists ≡ with_record (without_id w r.id) r
  world_again r cut lists k place abs own box unlinked list made =
      ap (λ rs. world_of w.tree rs lists) (ap (λ i. slice_set w.records i (Some r)) own ∙ sym (set-set w.records r.id None (Some r)))
      ∙ ap (λ p. world_of w.tree (slice_set (slice_set w.records r.id None) r.id (Some r)) p)
      (made ∙ ap (λ p. lists_after_insert p k r.id) unlinked ∙ ap (λ n. lists_after_insert (lists_after_remove w.lists r.id) n r.id) (list-by_box r k abs box list))
