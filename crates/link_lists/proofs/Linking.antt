-- The links after each change are those of the pool that it makes.
use Rattle.std.proofs.Common.{◌≡◌, ◌≢◌, ℕ, ◌<◌, ◌⊎◌, List, length, set, replicate, Option, Some, None, slice_get, sym, refl, ap, ◌∙◌, subst, inl, inr, arith, length-set, get_or-set_same, get_or-set_other}
use Rattle.std.proofs.lemmas.Bool.{cases_eq, cases_lt}
use Rattle.std.proofs.lemmas.List.{get_or_past, get_or-replicate, length-map, length-replicate}
use Rattle.std.proofs.lemmas.Option.{none-some, same_Some}
use Rattle.link_lists.specs.Pool.{ListsView, where_of, first_of, next_of, empty_pool, lists_after_insert, lists_after_remove, without, SetsOnly}
use Rattle.link_lists.specs.Links.{link_at, with_link, IsLinkedAs}
use Rattle.link_lists.proofs.Pools.{has-where_of, where_of-first, where_of-next, where_of-lt, first_or_next, next_of-Some, next_of-apart, list_of-empty, IsProper-empty, where_of-empty, next_of-nowhere, IsProper-inserted, where_of-inserted, first_of-inserted, first_of-inserted_other, next_of-inserted, next_of-inserted_other, IsProper-removed, where_of-removed, next_of-removed, next_of-removed_before, next_of-removed_other, first_of-removed, first_of-removed_other}

-- an option is Some i or it is not
cases_Some : (o : Option ℕ) (i : ℕ) → (o ≡ Some i) ⊎ (o ≡ Some i → ⊥)
cases_Some None i = inr (λ e. none-some i e)
cases_Some (Some j) i = elim (cases_eq j i) [
  | inl same ↦ inl (ap (λ (x : ℕ). Some x) same)
  | inr ne ↦ inr (λ e. ne (same_Some j i e))
]

length-with_link : (links : List (Option ℕ)) (at to : Option ℕ) → length (with_link links at to) ≡ length links
length-with_link links None to = refl
length-with_link links (Some i) to = length-set links i to

link_at-with_link : (links : List (Option ℕ)) (at to : Option ℕ) (i : ℕ) → i < length links → at ≡ Some i → link_at (with_link links at to) i ≡ to
link_at-with_link links None to i within e = absurd (none-some i e)
link_at-with_link links (Some j) to i within e = rw (same_Some j i e) (get_or-set_same links i to None within)

link_at-with_link_other : (links : List (Option ℕ)) (at to : Option ℕ) (i : ℕ) → (at ≡ Some i → ⊥) → link_at (with_link links at to) i ≡ link_at links i
link_at-with_link_other links None to i ne = refl
link_at-with_link_other links (Some j) to i ne = get_or-set_other links j i to None (λ e. ne (ap (λ (x : ℕ). Some x) (sym e)))

link_at-replicate : (n i : ℕ) → link_at (replicate n None) i ≡ None
link_at-replicate n i = elim (cases_lt i n) [
  | inl within ↦ get_or-replicate n i None None within
  | inr past ↦ get_or_past (replicate n None) i None (simp length-replicate past)
]

-- no links at all are those of empty lists
IsLinkedAs-empty : (ids lists : ℕ)
    → IsLinkedAs (replicate lists None) (replicate ids None) (replicate ids None) (replicate ids None) (empty_pool ids lists)
IsLinkedAs-empty ids lists =
    let first : (k : ℕ) → first_of (empty_pool ids lists) k ≡ None =
    λ k. ap (λ (xs : List ℕ). slice_get xs 0) (list_of-empty ids lists k) in
    let next : (id : ℕ) → next_of (empty_pool ids lists) id ≡ None =
    λ id. next_of-nowhere (empty_pool ids lists) id (where_of-empty ids lists id) in
    record {
      proper = IsProper-empty ids lists;
      list_count = simp length-replicate;
      next_count = length-replicate ids None;
      prev_count = length-replicate ids None;
      place_count = length-replicate ids None;
      firsts = λ k. link_at-replicate lists k ∙ sym (first k);
      nexts = λ id. link_at-replicate ids id ∙ sym (next id);
      wheres = λ id. link_at-replicate ids id ∙ sym (where_of-empty ids lists id);
      backs = λ id other e. absurd (none-some other (sym (next id) ∙ e));
      fronts = λ k id e. link_at-replicate ids id;
      frees = λ id e. link_at-replicate ids id;
    }

pub IsLinkedAs-none : (heads next prev places : List (Option ℕ)) (ids lists : ℕ)
    → heads ≡ replicate lists None → next ≡ replicate ids None → prev ≡ replicate ids None → places ≡ replicate ids None
    → IsLinkedAs heads next prev places (empty_pool ids lists)
IsLinkedAs-none heads next prev places ids lists h n b w = rw (h, n, b, w) (IsLinkedAs-empty ids lists)

-- the links back with the id in front of the first one of list k
abbrev pub prev_with : List (Option ℕ) → List (Option ℕ) → ℕ → ℕ → List (Option ℕ)
prev_with heads prev k id = with_link prev (link_at heads k) (Some id)

-- the links to the next and back without the id: those before it and after it are linked to each other
abbrev pub next_without : List (Option ℕ) → List (Option ℕ) → ℕ → List (Option ℕ)
next_without next prev id = with_link (set next id None) (link_at prev id) (link_at next id)

abbrev pub prev_without : List (Option ℕ) → List (Option ℕ) → ℕ → List (Option ℕ)
prev_without next prev id = with_link (set prev id None) (link_at next id) (link_at prev id)

-- each link is to an id of the pool
module _ (heads next prev places : List (Option ℕ)) (p : ListsView) (linked : IsLinkedAs heads next prev places p) where
  linked_in_range : (id k : ℕ) → where_of p id ≡ Some k → id < p.ids
  linked_in_range id k at = linked.proper.in_range k id (has-where_of p id k at)

  pub head_in_range : (k id : ℕ) → link_at heads k ≡ Some id → id < length prev
  head_in_range k id e =
      let count = linked.prev_count in
      omega (arith, linked_in_range id k (where_of-first p k id linked.proper (sym (linked.firsts k) ∙ e)))

  pub next_in_range : (id other : ℕ) → link_at next id ≡ Some other → other < length prev
  next_in_range id other e =
      let count = linked.prev_count in
      let after = sym (linked.nexts id) ∙ e in
      let w = next_of-Some p id other after in
      omega (arith, linked_in_range other w.0 (where_of-next p id other w.0 linked.proper w.1 after))

-- an id that is in no list put in front of the first one of list k
module _ (heads next prev places : List (Option ℕ)) (p : ListsView) (k id : ℕ) (linked : IsLinkedAs heads next prev places p)
    (list_in_range : k < length p.lists) (id_in_range : id < p.ids) (unlinked : where_of p id ≡ None) where
  -- where each id is then
  moved : SetsOnly p (lists_after_insert p k id) id (Some k)
  moved = where_of-inserted p k id linked.proper list_in_range id_in_range unlinked

  -- the link back of any other id than the old first one stays
  kept : (other : ℕ) → (first_of p k ≡ Some other → ⊥) → link_at (prev_with heads prev k id) other ≡ link_at prev other
  kept other ne = link_at-with_link_other prev (link_at heads k) (Some id) other (λ e. ne (sym (linked.firsts k) ∙ e))

  inserted_firsts : (j : ℕ) → link_at (set heads k (Some id)) j ≡ first_of (lists_after_insert p k id) j
  inserted_firsts j = elim (cases_eq j k) [
    | inl same ↦ rw same (
        get_or-set_same heads k (Some id) None (let count = linked.list_count in omega arith)
        ∙ sym (first_of-inserted p k id linked.proper list_in_range id_in_range unlinked))
    | inr apart ↦
        get_or-set_other heads k j (Some id) None apart
        ∙ linked.firsts j
        ∙ sym (first_of-inserted_other p k id linked.proper list_in_range id_in_range unlinked j apart)
  ]

  inserted_nexts : (j : ℕ) → link_at (set next id (link_at heads k)) j ≡ next_of (lists_after_insert p k id) j
  inserted_nexts j = elim (cases_eq j id) [
    | inl same ↦ rw same (
        get_or-set_same next id (link_at heads k) None (let count = linked.next_count in omega arith)
        ∙ linked.firsts k
        ∙ sym (next_of-inserted p k id linked.proper list_in_range id_in_range unlinked))
    | inr apart ↦
        get_or-set_other next id j (link_at heads k) None apart
        ∙ linked.nexts j
        ∙ sym (next_of-inserted_other p k id linked.proper list_in_range id_in_range unlinked j apart)
  ]

  inserted_wheres : (j : ℕ) → link_at (set places id (Some k)) j ≡ where_of (lists_after_insert p k id) j
  inserted_wheres j = elim (cases_eq j id) [
    | inl same ↦ rw same (
        get_or-set_same places id (Some k) None (let count = linked.place_count in omega arith)
        ∙ sym moved.changed)
    | inr apart ↦ get_or-set_other places id j (Some k) None apart ∙ linked.wheres j ∙ sym (moved.others j apart)
  ]

  inserted_backs : (j other : ℕ) → next_of (lists_after_insert p k id) j ≡ Some other → link_at (prev_with heads prev k id) other ≡ Some j
  inserted_backs j other e = elim (cases_eq j id) [
    | inl same ↦
        let first : first_of p k ≡ Some other =
        sym (next_of-inserted p k id linked.proper list_in_range id_in_range unlinked) ∙ subst (λ i. next_of (lists_after_insert p k id) i ≡ Some other) same e in
        let within = linked.proper.in_range k other (has-where_of p other k (where_of-first p k other linked.proper first)) in
        link_at-with_link prev (link_at heads k) (Some id) other (let count = linked.prev_count in omega arith) (linked.firsts k ∙ first)
        ∙ ap (λ (i : ℕ). Some i) (sym same)
    | inr apart ↦
        let back = linked.backs j other (sym (next_of-inserted_other p k id linked.proper list_in_range id_in_range unlinked j apart) ∙ e) in
        kept other (λ first. none-some j (sym (linked.fronts k other first) ∙ back)) ∙ back
  ]

  inserted_fronts : (j other : ℕ) → first_of (lists_after_insert p k id) j ≡ Some other → link_at (prev_with heads prev k id) other ≡ None
  inserted_fronts j other e = elim (cases_eq j k) [
    | inl same ↦
        let is : id ≡ other = same_Some id other (
        sym (first_of-inserted p k id linked.proper list_in_range id_in_range unlinked) ∙ subst (λ i. first_of (lists_after_insert p k id) i ≡ Some other) same e) in
        subst (λ i. link_at (prev_with heads prev k id) i ≡ None) is (
        kept id (λ first. none-some k (sym unlinked ∙ where_of-first p k id linked.proper first)) ∙ linked.frees id unlinked)
    | inr apart ↦
        let front = sym (first_of-inserted_other p k id linked.proper list_in_range id_in_range unlinked j apart) ∙ e in
        let there = where_of-first p j other linked.proper front in
        kept other (λ first. apart (same_Some j k (sym there ∙ where_of-first p k other linked.proper first))) ∙ linked.fronts j other front
  ]

  inserted_frees : (other : ℕ) → where_of (lists_after_insert p k id) other ≡ None → link_at (prev_with heads prev k id) other ≡ None
  inserted_frees other e =
      let apart : other ≢ id = λ same. none-some k (sym (subst (λ i. where_of (lists_after_insert p k id) i ≡ None) same e) ∙ moved.changed) in
      let free : where_of p other ≡ None = sym (moved.others other apart) ∙ e in
      kept other (λ first. none-some k (sym free ∙ where_of-first p k other linked.proper first)) ∙ linked.frees other free

  pub IsLinkedAs-inserted
      : IsLinkedAs (set heads k (Some id)) (set next id (link_at heads k)) (prev_with heads prev k id) (set places id (Some k)) (lists_after_insert p k id)
  IsLinkedAs-inserted = record {
    proper = IsProper-inserted p k id linked.proper list_in_range id_in_range unlinked;
    list_count = simp length-set linked.list_count;
    next_count = simp length-set linked.next_count;
    prev_count = length-with_link prev (link_at heads k) (Some id) ∙ linked.prev_count;
    place_count = simp length-set linked.place_count;
    firsts = inserted_firsts;
    nexts = inserted_nexts;
    wheres = inserted_wheres;
    backs = inserted_backs;
    fronts = inserted_fronts;
    frees = inserted_frees;
  }

-- an id of list k taken out
module _ (heads next prev places : List (Option ℕ)) (p : ListsView) (k id : ℕ) (linked : IsLinkedAs heads next prev places p)
    (at : where_of p id ≡ Some k) where
  within_ids : id < p.ids
  within_ids = linked.proper.in_range k id (has-where_of p id k at)

  -- what the link back says of the id
  comes_after : (b : ℕ) → link_at prev id ≡ Some b → next_of p b ≡ Some id
  comes_after b e = elim (first_or_next p id k linked.proper at) [
    | inl first ↦ absurd (none-some b (sym (linked.fronts k id first) ∙ e))
    | inr w ↦ subst (λ i. next_of p i ≡ Some id) (same_Some w.0 b (sym (linked.backs w.0 id w.1) ∙ e)) w.1
  ]

  comes_first : link_at prev id ≡ None → first_of p k ≡ Some id
  comes_first e = elim (first_or_next p id k linked.proper at) [
    | inl first ↦ first
    | inr w ↦ absurd (none-some w.0 (sym e ∙ linked.backs w.0 id w.1))
  ]

  pub prev_in_range : (b : ℕ) → link_at prev id ≡ Some b → b < length next
  prev_in_range b e =
      let count = linked.next_count in
      let w = next_of-Some p b id (comes_after b e) in
      omega (arith, linked.proper.in_range w.0 b (has-where_of p b w.0 w.1))

  -- where each id is then
  left : SetsOnly p (lists_after_remove p id) id None
  left = where_of-removed p id linked.proper

  removed_nexts : (j : ℕ) → link_at (next_without next prev id) j ≡ next_of (lists_after_remove p id) j
  removed_nexts j =
      let count = linked.next_count in
      let inside = within_ids in
      elim (cases_eq j id) [
        | inl same ↦ rw same (
            link_at-with_link_other (set next id None) (link_at prev id) (link_at next id) id
            (λ e. next_of-apart p id linked.proper (comes_after id e))
            ∙ get_or-set_same next id None None (omega arith)
            ∙ sym (next_of-removed p id linked.proper))
        | inr apart ↦ elim (cases_Some (link_at prev id) j) [
          | inl back ↦
              let before = comes_after j back in
              let w = next_of-Some p j id before in
              let j_in = linked.proper.in_range w.0 j (has-where_of p j w.0 w.1) in
              link_at-with_link (set next id None) (link_at prev id) (link_at next id) j (simp length-set (omega arith)) back
              ∙ linked.nexts id
              ∙ sym (next_of-removed_before p id linked.proper j before)
          | inr other ↦
              link_at-with_link_other (set next id None) (link_at prev id) (link_at next id) j other
              ∙ get_or-set_other next id j None None apart
              ∙ linked.nexts j
              ∙ sym (next_of-removed_other p id linked.proper j apart (λ e. other (linked.backs j id e)))
        ]
      ]

  removed_wheres : (j : ℕ) → link_at (set places id None) j ≡ where_of (lists_after_remove p id) j
  removed_wheres j =
      let count = linked.place_count in
      let inside = within_ids in
      elim (cases_eq j id) [
        | inl same ↦ rw same (get_or-set_same places id None None (omega arith) ∙ sym left.changed)
        | inr apart ↦ get_or-set_other places id j None None apart ∙ linked.wheres j ∙ sym (left.others j apart)
      ]

  -- the links back: the id after the removed one has its link, any other keeps its own
  back_after : (j : ℕ) → next_of p id ≡ Some j → link_at (prev_without next prev id) j ≡ link_at prev id
  back_after j e =
      let count = linked.prev_count in
      let there = where_of-next p id j k linked.proper at e in
      let inside = linked.proper.in_range k j (has-where_of p j k there) in
      link_at-with_link (set prev id None) (link_at next id) (link_at prev id) j (simp length-set (omega arith)) (linked.nexts id ∙ e)

  back_other : (j : ℕ) → j ≢ id → (next_of p id ≡ Some j → ⊥) → link_at (prev_without next prev id) j ≡ link_at prev j
  back_other j apart ne =
      link_at-with_link_other (set prev id None) (link_at next id) (link_at prev id) j (λ e. ne (sym (linked.nexts id) ∙ e))
      ∙ get_or-set_other prev id j None None apart

  back_itself : link_at (prev_without next prev id) id ≡ None
  back_itself =
      let count = linked.prev_count in
      let inside = within_ids in
      link_at-with_link_other (set prev id None) (link_at next id) (link_at prev id) id
      (λ e. next_of-apart p id linked.proper (sym (linked.nexts id) ∙ e))
      ∙ get_or-set_same prev id None None (omega arith)

  removed_backs : (j other : ℕ) → next_of (lists_after_remove p id) j ≡ Some other → link_at (prev_without next prev id) other ≡ Some j
  removed_backs j other e = elim (cases_eq j id) [
    | inl same ↦ absurd (none-some other (sym (subst (λ i. next_of (lists_after_remove p id) i ≡ None) (sym same) (next_of-removed p id linked.proper)) ∙ e))
    | inr apart ↦ elim (cases_Some (next_of p j) id) [
      | inl before ↦
          back_after other (sym (next_of-removed_before p id linked.proper j before) ∙ e) ∙ linked.backs j id before
      | inr ne ↦
          let old = sym (next_of-removed_other p id linked.proper j apart ne) ∙ e in
          let back = linked.backs j other old in
          back_other other
          (λ same. ne (subst (λ i. next_of p j ≡ Some i) same old))
          (λ after. apart (same_Some j id (sym back ∙ linked.backs id other after)))
          ∙ back
    ]
  ]

  removed_fronts : (j other : ℕ) → first_of (lists_after_remove p id) j ≡ Some other → link_at (prev_without next prev id) other ≡ None
  removed_fronts j other e = elim (cases_Some (first_of p j) id) [
    | inl first ↦ back_after other (sym (first_of-removed p id linked.proper j first) ∙ e) ∙ linked.fronts j id first
    | inr ne ↦
        let old = sym (first_of-removed_other p id linked.proper j ne) ∙ e in
        let front = linked.fronts j other old in
        back_other other
        (λ same. ne (subst (λ i. first_of p j ≡ Some i) same old))
        (λ after. none-some id (sym front ∙ linked.backs id other after))
        ∙ front
  ]

  removed_frees : (other : ℕ) → where_of (lists_after_remove p id) other ≡ None → link_at (prev_without next prev id) other ≡ None
  removed_frees other e = elim (cases_eq other id) [
    | inl same ↦ rw same back_itself
    | inr apart ↦
        let free : where_of p other ≡ None = sym (left.others other apart) ∙ e in
        back_other other apart (λ after. none-some k (sym free ∙ where_of-next p id other k linked.proper at after)) ∙ linked.frees other free
  ]

  removed_firsts : link_at prev id ≡ None → (j : ℕ) → link_at (set heads k (link_at next id)) j ≡ first_of (lists_after_remove p id) j
  removed_firsts back j =
      let count = linked.list_count in
      let within = where_of-lt p id k at in
      let first = comes_first back in
      elim (cases_eq j k) [
        | inl same ↦ rw same (
            get_or-set_same heads k (link_at next id) None (omega arith)
            ∙ linked.nexts id
            ∙ sym (first_of-removed p id linked.proper k first))
        | inr apart ↦
            get_or-set_other heads k j (link_at next id) None apart
            ∙ linked.firsts j
            ∙ sym (first_of-removed_other p id linked.proper j (λ e. apart (same_Some j k (sym (where_of-first p j id linked.proper e) ∙ at))))
      ]

  removed_firsts_after : (b : ℕ) → link_at prev id ≡ Some b → (j : ℕ) → link_at heads j ≡ first_of (lists_after_remove p id) j
  removed_firsts_after b back j =
      linked.firsts j
      ∙ sym (first_of-removed_other p id linked.proper j (λ e. none-some b (sym (linked.fronts j id e) ∙ back)))

  -- the heads may change, as long as they are the first ids
  linked_by : (new_heads : List (Option ℕ)) → length new_heads ≡ length heads → ((j : ℕ) → link_at new_heads j ≡ first_of (lists_after_remove p id) j)
      → IsLinkedAs new_heads (next_without next prev id) (prev_without next prev id) (set places id None) (lists_after_remove p id)
  linked_by new_heads same_count firsts = record {
    proper = IsProper-removed p id linked.proper;
    list_count = same_count ∙ linked.list_count ∙ sym (length-map p.lists (without id));
    next_count = length-with_link (set next id None) (link_at prev id) (link_at next id) ∙ length-set next id None ∙ linked.next_count;
    prev_count = length-with_link (set prev id None) (link_at next id) (link_at prev id) ∙ length-set prev id None ∙ linked.prev_count;
    place_count = length-set places id None ∙ linked.place_count;
    firsts = firsts;
    nexts = removed_nexts;
    wheres = removed_wheres;
    backs = removed_backs;
    fronts = removed_fronts;
    frees = removed_frees;
  }

  -- the first id of its list taken out
  pub IsLinkedAs-removed_first : link_at prev id ≡ None
      → IsLinkedAs (set heads k (link_at next id)) (set next id None)
      (with_link (set prev id None) (link_at next id) None) (set places id None) (lists_after_remove p id)
  IsLinkedAs-removed_first back =
      subst
      (λ o. IsLinkedAs (set heads k (link_at next id)) (with_link (set next id None) o (link_at next id))
      (with_link (set prev id None) (link_at next id) o) (set places id None) (lists_after_remove p id))
      back
      (linked_by (set heads k (link_at next id)) (length-set heads k (link_at next id)) (removed_firsts back))

  -- an id after another taken out
  pub IsLinkedAs-removed_after : (b : ℕ) → link_at prev id ≡ Some b
      → IsLinkedAs heads (set (set next id None) b (link_at next id))
      (with_link (set prev id None) (link_at next id) (Some b)) (set places id None) (lists_after_remove p id)
  IsLinkedAs-removed_after b back =
      subst
      (λ o. IsLinkedAs heads (with_link (set next id None) o (link_at next id))
      (with_link (set prev id None) (link_at next id) o) (set places id None) (lists_after_remove p id))
      back
      (linked_by heads refl (removed_firsts_after b back))
