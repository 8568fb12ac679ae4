-- What is marked on the way along a list.
use Rattle.std.proofs.Common.{◌≡◌, ℕ, suc, ◌+◌, ◌<◌, Bool, List, length, Option, Some, None, IsSome, slice_set, sym, refl, ap, ◌∙◌, subst, arith}
use Rattle.arena_geo.specs.Bounds.{Bounds}
use Rattle.link_lists.specs.Pool.{ListsView, list_of, where_of, first_of, next_of, IsProper}
use Rattle.link_lists.proofs.Pools.{has-where_of, where_of-first, where_of-next}
use Rattle.world_tree.specs.Walks.{touches_at, marked}
use Rattle.world_tree.proofs.Chains.{rest_at, rest-begins, rest-goes_on}

-- the walk stands at an id of the list or past its end, and to mark what is left gives what to mark the whole list would have given
pub record KeepsMarking (lists : ListsView) (list : ℕ) (boxes : List (Option Bounds)) (region : List Bounds) (start : List Bool) (at : Option ℕ) (marks : List Bool) : Type 0 where
  pub member : (id : ℕ) → at ≡ Some id → where_of lists id ≡ Some list
  pub left : marked boxes region (rest_at at (list_of lists list)) marks ≡ marked boxes region (list_of lists list) start

module _ (lists : ListsView) (list : ℕ) (boxes : List (Option Bounds)) (region : List Bounds) (start : List Bool) where
  pub marking-begins : (at : Option ℕ) → IsProper lists → at ≡ first_of lists list → KeepsMarking lists list boxes region start at start
  marking-begins at proper first = record {
    member = λ id e. where_of-first lists list id proper (sym first ∙ e);
    left = ap (λ ids. marked boxes region ids start) (rest-begins lists list at first);
  }

  -- one id is marked, and the walk goes on
  pub marking-goes_on : (at next : Option ℕ) (id place : ℕ) (mark : Bool) (marks : List Bool)
      → IsProper lists → KeepsMarking lists list boxes region start at marks → at ≡ Some id → next ≡ next_of lists id
      → place ≡ id → mark ≡ touches_at boxes region id
      → KeepsMarking lists list boxes region start next (slice_set marks place mark)
  unfolding marked
  marking-goes_on at next id place mark marks proper keeps here goes own is = record {
    member = λ other e. where_of-next lists id other list proper (keeps.member id here) (sym goes ∙ e);
    left =
        ap (λ i. marked boxes region (rest_at next (list_of lists list)) (slice_set marks i mark)) own
        ∙ ap (λ b. marked boxes region (rest_at next (list_of lists list)) (slice_set marks id b)) is
        ∙ ap (λ ids. marked boxes region ids marks) (sym (rest-goes_on lists list id next proper (keeps.member id here) goes))
        ∙ ap (λ o. marked boxes region (rest_at o (list_of lists list)) marks) (sym here)
        ∙ keeps.left;
  }

  -- what is left is shorter by one
  pub marking-shortens : (at next : Option ℕ) (id : ℕ) (marks : List Bool)
      → IsProper lists → KeepsMarking lists list boxes region start at marks → at ≡ Some id → next ≡ next_of lists id
      → length (rest_at at (list_of lists list)) ≡ suc (length (rest_at next (list_of lists list)))
  marking-shortens at next id marks proper keeps here goes =
      ap (λ o. length (rest_at o (list_of lists list))) here
      ∙ ap (λ (ids : List ℕ). length ids) (rest-goes_on lists list id next proper (keeps.member id here) goes)

  -- the ids of the list are in range
  pub marking-in_range : (at : Option ℕ) (id : ℕ) (marks : List Bool)
      → IsProper lists → KeepsMarking lists list boxes region start at marks → at ≡ Some id → id < lists.ids
  marking-in_range at id marks proper keeps here = proper.in_range list id (has-where_of lists id list (keeps.member id here))

  -- and linked
  pub marking-linked : (at : Option ℕ) (id : ℕ) (marks : List Bool)
      → KeepsMarking lists list boxes region start at marks → at ≡ Some id → IsSome (where_of lists id)
  marking-linked at id marks keeps here = subst (λ o. IsSome o) (sym (keeps.member id here)) refl

  -- past the end all is marked
  pub marking-ends : (at : Option ℕ) (marks : List Bool)
      → KeepsMarking lists list boxes region start at marks → at ≡ None → marks ≡ marked boxes region (list_of lists list) start
  unfolding marked
  marking-ends at marks keeps none = subst (λ o. marked boxes region (rest_at o (list_of lists list)) marks ≡ marked boxes region (list_of lists list) start) none keeps.left

-- a walk that marks, and counts each id that it comes to
pub record KeepsCounting (lists : ListsView) (list : ℕ) (boxes : List (Option Bounds)) (region : List Bounds) (start : List Bool) (before : ℕ) (at : Option ℕ) (marks : List Bool) (steps : ℕ) : Type 0 where
  pub marking : KeepsMarking lists list boxes region start at marks
  pub counted : steps + length (rest_at at (list_of lists list)) ≡ before + length (list_of lists list)

module _ (lists : ListsView) (list : ℕ) (boxes : List (Option Bounds)) (region : List Bounds) (start : List Bool) (before : ℕ) where
  pub counting-begins : (at : Option ℕ) → IsProper lists → at ≡ first_of lists list → KeepsCounting lists list boxes region start before at start before
  counting-begins at proper first = record {
    marking = marking-begins lists list boxes region start at proper first;
    counted = ap (λ (ids : List ℕ). before + length ids) (rest-begins lists list at first);
  }

  pub counting-goes_on : (at next : Option ℕ) (id place : ℕ) (mark : Bool) (marks : List Bool) (steps more : ℕ)
      → IsProper lists → KeepsCounting lists list boxes region start before at marks steps → at ≡ Some id → next ≡ next_of lists id
      → place ≡ id → mark ≡ touches_at boxes region id → more ≡ steps + 1
      → KeepsCounting lists list boxes region start before next (slice_set marks place mark) more
  counting-goes_on at next id place mark marks steps more proper keeps here goes own is one = record {
    marking = marking-goes_on lists list boxes region start at next id place mark marks proper keeps.marking here goes own is;
    counted =
        let shorter = marking-shortens lists list boxes region start at next id marks proper keeps.marking here goes in
        omega (arith, keeps.counted);
  }

  pub counting-ends : (at : Option ℕ) (marks : List Bool) (steps : ℕ)
      → KeepsCounting lists list boxes region start before at marks steps → at ≡ None → steps ≡ before + length (list_of lists list)
  counting-ends at marks steps keeps none =
      let none_left : length (rest_at at (list_of lists list)) ≡ 0 = ap (λ o. length (rest_at o (list_of lists list))) none in
      omega (arith, keeps.counted)
