-- What stays linked when a record is put in or taken out.
use Rattle.std.proofs.Common.{◌≡◌, ℕ, ◌*◌, ◌<◌, List, [], Option, Some, None, replicate, slice_set, length, sym, ap, ◌∙◌, subst, inl, inr, arith, get_or-set_same, get_or-set_other}
use Rattle.std.specs.Option.{option_map}
use Rattle.std.proofs.lemmas.Bool.{cases_eq, cases_lt}
use Rattle.std.proofs.lemmas.List.{get_or_past, get_or-replicate, length-map, length-replicate, length-set}
use Rattle.std.proofs.lemmas.Option.{none-some, same_Some}
use Rattle.areanode.specs.Trees.{TreeView, IsTreeDepth, nodes_in}
use Rattle.entity_recs.specs.declared.limits.TheConstants.{IDS}
use Rattle.entity_recs.specs.declared.rec.Rec.{Rec}
use Rattle.entity_recs.specs.Records.{IsRecord}
use Rattle.entity_recs.proofs.Ids.{id_in}
use Rattle.link_lists.specs.Pool.{ListsView, where_of, empty_pool, lists_after_insert, lists_after_remove, IsProper, SetsOnly}
use Rattle.link_lists.proofs.Pools.{IsProper-empty, where_of-empty}
use Rattle.world_tree.specs.Live.{record_at, IsEntry, AreEntries}
use Rattle.world_tree.specs.Worlds.{WorldView, world_of, list_for, IsLinked}

pub id-below : (r : Rec) → IsRecord r → r.id < IDS
id-below r is = id_in r.kind r.id is.id

-- no id is live among empty places
pub record_at-empty : (n id : ℕ) → record_at (replicate n None) id ≡ None
record_at-empty n id = elim (cases_lt id n) [
  | inl within ↦ get_or-replicate n id None None within
  | inr past ↦ get_or_past (replicate n None) id None (simp length-replicate past)
]

pub linked_empty : (tree : TreeView) (records : List (Option Rec)) (lists : ListsView)
    → IsTreeDepth tree.depth → records ≡ replicate IDS None → lists ≡ empty_pool IDS (2 * nodes_in tree.depth)
    → IsLinked (world_of tree records lists)
linked_empty tree records lists depth none empty = record {
  depth = depth;
  places = ap (λ (rs : List (Option Rec)). length rs) none ∙ length-replicate {A = Option Rec} IDS None;
  ids = ap (λ (p : ListsView). p.ids) empty;
  list_count = ap (λ (p : ListsView). length p.lists) empty ∙ length-replicate {A = List ℕ} (2 * nodes_in tree.depth) [];
  entries = λ id r is. absurd (none-some r (sym (ap (λ rs. record_at rs id) none ∙ record_at-empty IDS id) ∙ is));
  proper = subst IsProper (sym empty) (IsProper-empty IDS (2 * nodes_in tree.depth));
  linked = λ id.
      ap (λ p. where_of p id) empty ∙ where_of-empty IDS (2 * nodes_in tree.depth) id
      ∙ sym (ap (option_map (list_for tree)) (ap (λ rs. record_at rs id) none ∙ record_at-empty IDS id));
}

-- a record put in where its id isn't live
module _ (w : WorldView) (linked : IsLinked w) where
  entries_with : (r : Rec) → IsRecord r → AreEntries (slice_set w.records r.id (Some r))
  entries_with r is id other e = elim (cases_eq id r.id) [
    | inl same ↦
        let within : r.id < length w.records = omega (arith, id-below r is, linked.places) in
        let here = same_Some r other (sym (get_or-set_same w.records r.id (Some r) None within) ∙ subst (λ i. record_at (slice_set w.records r.id (Some r)) i ≡ Some other) same e) in
        subst (IsEntry id) here (record { is_record = is; own_id = sym same })
    | inr apart ↦ linked.entries id other (sym (get_or-set_other w.records r.id id (Some r) None apart) ∙ e)
  ]

  linked_with_own : (r : Rec) (lists : ListsView) (k : ℕ)
      → IsRecord r → k ≡ list_for w.tree r → lists ≡ lists_after_insert w.lists k r.id
      → SetsOnly w.lists lists r.id (Some k) → IsProper lists
      → IsLinked (world_of w.tree (slice_set w.records r.id (Some r)) lists)
  linked_with_own r lists k is list made sets proper = record {
    depth = linked.depth;
    places = length-set w.records r.id (Some r) ∙ linked.places;
    ids = ap (λ (p : ListsView). p.ids) made ∙ linked.ids;
    list_count = ap (λ (p : ListsView). length p.lists) made ∙ length-set w.lists.lists k _ ∙ linked.list_count;
    entries = entries_with r is;
    proper = proper;
    linked = λ id. elim (cases_eq id r.id) [
      | inl same ↦
          let within : r.id < length w.records = omega (arith, id-below r is, linked.places) in
          let here = get_or-set_same w.records r.id (Some r) None within in
          ap (where_of lists) same ∙ sets.changed ∙ ap (λ (n : ℕ). Some n) list
          ∙ sym (ap (option_map (list_for w.tree)) (ap (record_at (slice_set w.records r.id (Some r))) same ∙ here))
      | inr apart ↦
          sets.others id apart ∙ linked.linked id
          ∙ ap (option_map (list_for w.tree)) (sym (get_or-set_other w.records r.id id (Some r) None apart))
    ];
  }

  pub linked_with : (r : Rec) (lists : ListsView) (k place : ℕ)
      → place ≡ r.id → IsRecord r → k ≡ list_for w.tree r → lists ≡ lists_after_insert w.lists k r.id
      → SetsOnly w.lists lists r.id (Some k) → IsProper lists
      → IsLinked (world_of w.tree (slice_set w.records place (Some r)) lists)
  linked_with r lists k place own is list made sets proper =
      subst (λ i. IsLinked (world_of w.tree (slice_set w.records i (Some r)) lists)) (sym own) (linked_with_own r lists k is list made sets proper)

  -- no record is left at a place that is emptied
  record_at-emptied : (id : ℕ) → record_at (slice_set w.records id None) id ≡ None
  record_at-emptied id = elim (cases_lt id (length w.records)) [
    | inl within ↦ get_or-set_same w.records id None None within
    | inr past ↦ get_or_past (slice_set w.records id None) id None (omega (arith, length-set w.records id None, past))
  ]

  linked_without_own : (id : ℕ) (lists : ListsView)
      → lists ≡ lists_after_remove w.lists id → SetsOnly w.lists lists id None → IsProper lists
      → IsLinked (world_of w.tree (slice_set w.records id None) lists)
  linked_without_own id lists made sets proper = record {
    depth = linked.depth;
    places = length-set w.records id None ∙ linked.places;
    ids = ap (λ (p : ListsView). p.ids) made ∙ linked.ids;
    list_count = ap (λ (p : ListsView). length p.lists) made ∙ (simp length-map) ∙ linked.list_count;
    entries = λ other r e. elim (cases_eq other id) [
      | inl same ↦ absurd (none-some r (sym (record_at-emptied id) ∙ subst (λ i. record_at (slice_set w.records id None) i ≡ Some r) same e))
      | inr apart ↦ linked.entries other r (sym (get_or-set_other w.records id other None None apart) ∙ e)
    ];
    proper = proper;
    linked = λ other. elim (cases_eq other id) [
      | inl same ↦
          ap (where_of lists) same ∙ sets.changed
          ∙ sym (ap (option_map (list_for w.tree)) (ap (record_at (slice_set w.records id None)) same ∙ record_at-emptied id))
      | inr apart ↦
          sets.others other apart ∙ linked.linked other
          ∙ ap (option_map (list_for w.tree)) (sym (get_or-set_other w.records id other None None apart))
    ];
  }

  pub linked_without : (id place : ℕ) (lists : ListsView)
      → place ≡ id → lists ≡ lists_after_remove w.lists id → SetsOnly w.lists lists id None → IsProper lists
      → IsLinked (world_of w.tree (slice_set w.records place None) lists)
  linked_without id place lists own made sets proper =
      subst (λ i. IsLinked (world_of w.tree (slice_set w.records i None) lists)) (sym own) (linked_without_own id lists made sets proper)
