-- A world that is filled with records, one after another.
use Rattle.std.proofs.Common.{◌≡◌, ℕ, zero, suc, ◌+◌, ◌*◌, ◌<◌, ◌≤◌, ◌==◌, Bool, true, false, nat_eq, List, [], ◌∷◌, ◌++◌, map, take, length, replicate, Option, Some, None, slice_index_or, sym, refl, ap, ◌∙◌, subst, inl, inr, arith, get_or-set_same, get_or-set_other}
use Rattle.std.specs.List.{find, IsDistinct}
use Rattle.std.proofs.lemmas.Bool.{cases_Bool, cases_eq, eq-eqb, ne_eqb, false≢true}
use Rattle.std.proofs.lemmas.List.{get_or-map, length-map, take_more, take_all}
use Rattle.std.proofs.lemmas.List.Folds.{list_any_at}
use Rattle.std.proofs.lemmas.Option.{none-some}
use Rattle.arena_geo.specs.Bounds.{Bounds}
use Rattle.entity_recs.specs.declared.limits.TheConstants.{IDS}
use Rattle.entity_recs.specs.declared.rec.Rec.{Rec}
use Rattle.entity_recs.specs.Records.{IsRecord}
use Rattle.areanode.specs.Trees.{TreeView, IsTreeDepth, nodes_in}
use Rattle.link_lists.specs.Pool.{ListsView, empty_pool}
use Rattle.link_lists.proofs.OneList.{rest_lacks_first, rest_is_distinct}
use Rattle.world_tree.specs.Live.{record_at}
use Rattle.world_tree.specs.Worlds.{WorldView, world_of, record_of, IsLinked, empty_world, with_record, with_records}
use Rattle.world_tree.proofs.Links.{id-below, record_at-empty, linked_empty}

-- the world has the first records, and each id has the one of them with that id
pub record KeepsAdding (bounds : Bounds) (depth : ℕ) (start : List Rec) (i : ℕ) (w : WorldView) : Type 0 where
  pub made : w ≡ with_records (empty_world bounds depth) (take i start)
  pub records : (id : ℕ) → record_of w id ≡ find (λ r. r.id == id) (take i start)
  pub linked : IsLinked w

-- a find in a list with one more at its end
find-last : (test : Rec → Bool) (xs : List Rec) (x : Rec) → find test xs ≡ None → test x ≡ true → find test (xs ++ x ∷ []) ≡ Some x
find-last test [] x none passes = rw passes refl
find-last test (y ∷ ys) x none passes = elim (cases_Bool (test y)) [
  | inl here ↦ absurd (none-some y (sym none ∙ rw here refl))
  | inr later ↦ rw later (find-last test ys x (sym (rw later refl) ∙ none) passes)
]

find-last_other : (test : Rec → Bool) (xs : List Rec) (x : Rec) → test x ≡ false → find test (xs ++ x ∷ []) ≡ find test xs
find-last_other test [] x fails = rw fails refl
find-last_other test (y ∷ ys) x fails = elim (cases_Bool (test y)) [
  | inl here ↦ rw here refl
  | inr later ↦ rw later (find-last_other test ys x fails)
]

fold-last : (w : WorldView) (xs : List Rec) (x : Rec) → with_records w (xs ++ x ∷ []) ≡ with_record (with_records w xs) x
fold-last w [] x = refl
fold-last w (y ∷ ys) x = fold-last (with_record w y) ys x

-- no record before has the id of this one
pub find-before : (xs : List Rec) (i : ℕ) (d : Rec) → IsDistinct nat_eq (map (λ r. r.id) xs) → i < length xs
    → find (λ r. r.id == (slice_index_or xs i d).id) (take i xs) ≡ None
find-before [] i d apart below = absurd (omega arith)
find-before (x ∷ xs) zero d apart below = refl
find-before (x ∷ xs) (suc i) d apart below =
    let lacks = rest_lacks_first x.id (map (λ r. r.id) xs) apart in
    let within : i < length xs = omega arith in
    let differs : (x.id == (slice_index_or xs i d).id) ≡ false = elim (cases_Bool (x.id == (slice_index_or xs i d).id)) [
      | inl same ↦
          let there = list_any_at (nat_eq x.id) (map (λ r. r.id) xs) i d.id (simp length-map within)
          (ap (nat_eq x.id) (get_or-map (λ (r : Rec). r.id) xs i d d.id within) ∙ same) in
          absurd (false≢true (sym lacks ∙ there))
      | inr other ↦ other
    ] in
    rw differs (find-before xs i d (rest_is_distinct x.id (map (λ r. r.id) xs) apart) within)

-- a world is its parts
pub world-is : (w v : WorldView) → w.tree ≡ v.tree → w.records ≡ v.records → w.lists ≡ v.lists → w ≡ v
world-is w v tree records lists =
    ap (λ t. world_of t w.records w.lists) tree ∙ ap (λ rs. world_of v.tree rs w.lists) records ∙ ap (λ p. world_of v.tree v.records p) lists

-- a world without records is linked
pub linked_over : (bounds : Bounds) (depth : ℕ) (tree : TreeView) (records : List (Option Rec)) (lists : ListsView)
    → IsTreeDepth depth → tree ≡ record { depth = depth; bounds = bounds } → records ≡ replicate IDS None
    → lists ≡ empty_pool IDS (2 * nodes_in depth) → IsLinked (world_of tree records lists)
linked_over bounds depth tree records lists is_depth tree_is none empty =
    subst (λ t. IsLinked (world_of t records lists)) (sym tree_is)
    (linked_empty (record { depth = depth; bounds = bounds }) records lists is_depth none empty)

pub adding-begins : (bounds : Bounds) (depth : ℕ) (start : List Rec) (tree : TreeView) (records : List (Option Rec)) (lists : ListsView)
    → IsTreeDepth depth → tree ≡ record { depth = depth; bounds = bounds } → records ≡ replicate IDS None
    → lists ≡ empty_pool IDS (2 * nodes_in depth)
    → KeepsAdding bounds depth start 0 (world_of tree records lists)
adding-begins bounds depth start tree records lists is_depth tree_is none empty = record {
  made = world-is (world_of tree records lists) (empty_world bounds depth) tree_is none empty;
  records = λ id. ap (λ rs. record_at rs id) none ∙ record_at-empty IDS id;
  linked = linked_over bounds depth tree records lists is_depth tree_is none empty;
}

pub adding-goes_on : (bounds : Bounds) (depth : ℕ) (start : List Rec) (i : ℕ) (w more : WorldView) (d r : Rec) → i < length start
    → slice_index_or start i d ≡ r → IsRecord r → KeepsAdding bounds depth start i w → record_of w r.id ≡ None → more ≡ with_record w r → IsLinked more → KeepsAdding bounds depth start (i + 1) more
adding-goes_on bounds depth start i w more d r below here is keeps free does linked =
    let longer : take (i + 1) start ≡ take i start ++ r ∷ [] = take_more start i d below ∙ ap (λ (x : Rec). take i start ++ x ∷ []) here in
    record {
      made = does ∙ ap (λ v. with_record v r) keeps.made ∙ sym (fold-last (empty_world bounds depth) (take i start) r) ∙ ap (with_records (empty_world bounds depth)) (sym longer);
      records = λ id.
          ap (λ v. record_of v id) does
          ∙ elim (cases_eq id r.id) [
            | inl same ↦
                let t : (r.id == id) ≡ true = eq-eqb r.id id (sym same) in
                let within : r.id < length w.records = omega (arith, id-below r is, keeps.linked.places) in
                let none = sym (keeps.records id) ∙ ap (record_of w) same ∙ free in
                ap (record_of (with_record w r)) same ∙ get_or-set_same w.records r.id (Some r) None within
                ∙ sym (find-last (λ x. x.id == id) (take i start) r none t)
            | inr apart ↦
                let t : (r.id == id) ≡ false = ne_eqb r.id id (λ e. apart (sym e)) in
                get_or-set_other w.records r.id id (Some r) None apart ∙ keeps.records id
                ∙ sym (find-last_other (λ x. x.id == id) (take i start) r t)
          ]
          ∙ ap (find (λ x. x.id == id)) (sym longer);
      linked = linked;
    }

-- at the end the world has all the records
pub all-made : (bounds : Bounds) (depth : ℕ) (start : List Rec) (i : ℕ) (w : WorldView) → length start ≤ i → KeepsAdding bounds depth start i w → w ≡ with_records (empty_world bounds depth) start
all-made bounds depth start i w past keeps = keeps.made ∙ ap (with_records (empty_world bounds depth)) (take_all i start past)

pub all-found : (bounds : Bounds) (depth : ℕ) (start : List Rec) (i : ℕ) (w : WorldView) → length start ≤ i → KeepsAdding bounds depth start i w → (id : ℕ) → record_of w id ≡ find (λ r. r.id == id) start
all-found bounds depth start i w past keeps id = keeps.records id ∙ ap (find (λ r. r.id == id)) (take_all i start past)

tree-with_records : (w : WorldView) (records : List Rec) → (with_records w records).tree ≡ w.tree
tree-with_records w [] = refl
tree-with_records w (r ∷ records) = tree-with_records (with_record w r) records

pub tree-made : (bounds : Bounds) (depth : ℕ) (start : List Rec) (i : ℕ) (w : WorldView) → KeepsAdding bounds depth start i w → w.tree ≡ (empty_world bounds depth).tree
tree-made bounds depth start i w keeps = ap (λ v. v.tree) keeps.made ∙ tree-with_records (empty_world bounds depth) (take i start)
