-- Lemmas about walks: where the links are those of a pool, the walk from each head is its list.
use Rattle.std.proofs.Common.{◌≡◌, ℕ, zero, suc, ◌≤◌, true, nat_eq, List, [], ◌∷◌, map, length, Option, None, slice_get, sym, refl, ap, ◌∙◌, subst, arith}
use Rattle.std.specs.List.{IsDistinct}
use Rattle.std.proofs.lemmas.Bool.{or_left, or_right, eq-eqb, ne_eqb, false≢true}
use Rattle.std.proofs.lemmas.List.{ext_get_or, get_or-map, length-map}
use Rattle.link_lists.specs.Pool.{ListsView, has, after, list_of}
use Rattle.link_lists.specs.Links.{link_at, walk, pool_of, IsLinkedAs}
use Rattle.link_lists.proofs.OneList.{rest_lacks_first, rest_is_distinct}
use Rattle.link_lists.proofs.Pools.{next_of-in, where_of-has, length-list_of}

-- each id of the list is linked to the one after it, and the last to none
abbrev pub IsChain : List (Option ℕ) → List ℕ → Type 0
IsChain next [] = Unit {0}
IsChain next (x ∷ xs) = (link_at next x ≡ slice_get xs 0) × IsChain next xs

-- the walk from the first id of a chain is the chain, where it may be so long
pub walk-chain : (n : ℕ) (next : List (Option ℕ)) (xs : List ℕ)
    → length xs ≤ n → IsChain next xs → walk n next (slice_get xs 0) ≡ xs
walk-chain zero next [] fits chain = refl
walk-chain zero next (x ∷ xs) fits chain = absurd (omega arith)
walk-chain (suc n) next [] fits chain = refl
walk-chain (suc n) next (x ∷ xs) fits chain =
    ap (λ at. x ∷ walk n next at) chain.0 ∙ ap (λ (ys : List ℕ). x ∷ ys) (walk-chain n next xs (omega arith) chain.1)

-- links that say what comes after each id of a list make it a chain
pub IsChain-from_after : (next : List (Option ℕ)) (xs : List ℕ)
    → IsDistinct nat_eq xs → ((id : ℕ) → has xs id ≡ true → link_at next id ≡ after id xs) → IsChain next xs
IsChain-from_after next [] d h = tt
IsChain-from_after next (x ∷ xs) d h =
    let same = eq-eqb x x refl in
    let here = h x (or_left _ _ same) in
    let lacks = rest_lacks_first x xs d in (
      grind arith,
      IsChain-from_after next xs (rest_is_distinct x xs d) (λ id member.
          let other = ne_eqb id x (λ e. false≢true (sym lacks ∙ ap (has xs) (sym e) ∙ member)) in
          let there = h id (or_right _ _ member) in
          grind arith),
    )

module _ (heads next prev places : List (Option ℕ)) (p : ListsView) (linked : IsLinkedAs heads next prev places p) where
  fits : (k : ℕ) → length (list_of p k) ≤ length next
  fits k =
      let count = linked.next_count in
      omega (arith, length-list_of p k linked.proper)

  walk-list_of : (k : ℕ) → walk (length next) next (link_at heads k) ≡ list_of p k
  walk-list_of k =
      ap (walk (length next) next) (linked.firsts k)
      ∙ walk-chain (length next) next (list_of p k) (fits k) (
      IsChain-from_after next (list_of p k) (linked.proper.once k) (λ id h.
      linked.nexts id ∙ next_of-in p id k (where_of-has p id k linked.proper h)))

  lists_are : map (walk (length next) next) heads ≡ p.lists
  lists_are = ext_get_or [] _ _ (simp length-map linked.list_count) (λ k within.
      get_or-map (walk (length next) next) heads k None [] (simp length-map at within) ∙ walk-list_of k)

  -- the heads and the links to the next make the pool
  pub pool_of-linked : pool_of heads next ≡ p
  pool_of-linked = λ i. record { ids = linked.next_count i; lists = lists_are i }

  -- so the links are those of the pool that they make
  pub IsLinkedAs-itself : IsLinkedAs heads next prev places (pool_of heads next)
  IsLinkedAs-itself = subst (IsLinkedAs heads next prev places) (sym pool_of-linked) linked
