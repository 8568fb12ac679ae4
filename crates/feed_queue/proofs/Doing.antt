-- What one pass alone has done, as views change.
use Rattle.std.proofs.Common.{◌≡◌, ◌≢◌, ℕ, zero, suc, List, [], ◌∷◌, ◌++◌, length, set, sym, refl, ap, ◌∙◌, ⊎_elim, Option, Some, None}
use mathlib.Core.Option.{some, some-injective, some-ne-none}
use lib.ListN.{get_elem?}
use Rattle.crossbeam_queue.proofs.Lists.{at_set, at_snoc}
use Rattle.std.proofs.lemmas.Option.{none-some, same_Some}
use Rattle.feed_queue.specs.declared.hand.Hand.{Hand}
use Rattle.feed_queue.specs.Rule.{IsDoneBy}

at_end : (l : List Hand) (a b : Hand) (j : ℕ) → get_elem? l j ≢ some b → get_elem? (l ++ a ∷ []) j ≡ some b → j ≡ length l
at_end [] a b zero n e = refl
at_end [] a b (suc j) n e = absurd (some-ne-none b (sym e))
at_end (x ∷ xs) a b zero n e = absurd (n e)
at_end (x ∷ xs) a b (suc j) n e = ap suc (at_end xs a b j n e)

module _ (part : Hand → Option (List ℕ)) where
  -- what two equal views have done
  same_done : (v w : Hand) (mine yours : List ℕ) → w ≡ v → part v ≡ Some mine → part w ≡ Some yours → mine ≡ yours
  same_done v w mine yours e a b = same_Some mine yours (sym a ∙ ap part (sym e) ∙ b)

  -- the first view, of a pass that may
  pub done_first : (v : Hand) (done : List ℕ) → part v ≡ Some done → IsDoneBy part 0 done (v ∷ [])
  done_first v done is zero u mine e has = (refl, same_done u v mine done (some-injective v u e) has is)
  done_first v done is (suc j) u mine e has = absurd (some-ne-none u (sym e))

  -- a pass that may has done more
  pub done_more : (at : ℕ) (done done' : List ℕ) (views : List Hand) (pass : ℕ) (v w : Hand) (mine : List ℕ)
      → IsDoneBy part at done views → get_elem? views pass ≡ some v → part v ≡ Some mine → part w ≡ Some done'
      → IsDoneBy part at done' (set views pass w)
  done_more at done done' views pass v w mine d here is is' j u yours e has = ⊎_elim
      (λ (x : (j ≡ pass) × (w ≡ u)). (x.0 ∙ (d pass v mine here is).0, same_done u w yours done' x.1 has is'))
      (λ (x : (j ≢ pass) × (get_elem? views j ≡ some u)). absurd (x.0 ((d j u yours x.1 has).0 ∙ sym (d pass v mine here is).0)))
      (at_set views pass j w u e)

  -- a view changed, but not in this
  pub done_same : (at : ℕ) (done : List ℕ) (views : List Hand) (pass : ℕ) (v w : Hand)
      → IsDoneBy part at done views → get_elem? views pass ≡ some v → part w ≡ part v
      → IsDoneBy part at done (set views pass w)
  done_same at done views pass v w d here is j u yours e has = ⊎_elim
      (λ (x : (j ≡ pass) × (w ≡ u)). (x.0 ∙ (d pass v yours here (sym is ∙ ap part x.1 ∙ has)).0, (d pass v yours here (sym is ∙ ap part x.1 ∙ has)).1))
      (λ (x : (j ≢ pass) × (get_elem? views j ≡ some u)). d j u yours x.1 has)
      (at_set views pass j w u e)

  -- a pass may no longer
  pub done_none : (at : ℕ) (done : List ℕ) (views : List Hand) (pass : ℕ) (w : Hand)
      → IsDoneBy part at done views → part w ≡ None → IsDoneBy part at done (set views pass w)
  done_none at done views pass w d none j u yours e has = ⊎_elim
      (λ (x : (j ≡ pass) × (w ≡ u)). absurd (none-some yours (sym none ∙ ap part x.1 ∙ has)))
      (λ (x : (j ≢ pass) × (get_elem? views j ≡ some u)). d j u yours x.1 has)
      (at_set views pass j w u e)

  -- a new pass may not
  pub done_beside : (at : ℕ) (done : List ℕ) (views : List Hand) (w : Hand)
      → IsDoneBy part at done views → part w ≡ None → IsDoneBy part at done (views ++ w ∷ [])
  done_beside at done views w d none j u yours e has = ⊎_elim
      (λ (x : get_elem? views j ≡ some u). d j u yours x has)
      (λ (x : w ≡ u). absurd (none-some yours (sym none ∙ ap part x ∙ has)))
      (at_snoc views w u j e)

  -- a pass gave it to a new one
  pub done_given : (at : ℕ) (done : List ℕ) (views : List Hand) (pass : ℕ) (v left right : Hand) (mine : List ℕ)
      → IsDoneBy part at done views → get_elem? views pass ≡ some v → part v ≡ Some mine → part left ≡ None → part right ≡ Some mine
      → IsDoneBy part (length (set views pass left)) done (set views pass left ++ right ∷ [])
  done_given at done views pass v left right mine d here is none is' j u yours e has =
      let vs : List Hand = set views pass left in
      let nobody : get_elem? vs j ≢ some u = λ x. ⊎_elim
      (λ (y : (j ≡ pass) × (left ≡ u)). none-some yours (sym none ∙ ap part y.1 ∙ has))
      (λ (y : (j ≢ pass) × (get_elem? views j ≡ some u)). y.0 ((d j u yours y.1 has).0 ∙ sym (d pass v mine here is).0))
      (at_set views pass j left u x) in
      ⊎_elim
      (λ (x : get_elem? vs j ≡ some u). absurd (nobody x))
      (λ (x : right ≡ u). (at_end vs right u j nobody e, same_done u right yours mine x has is' ∙ (d pass v mine here is).1))
      (at_snoc vs right u j e)

  -- a pass has it back from another, which is spent
  pub done_back : (at : ℕ) (done : List ℕ) (views : List Hand) (pass other : ℕ) (w both spent : Hand) (mine : List ℕ)
      → IsDoneBy part at done views → get_elem? views other ≡ some w → part w ≡ Some mine → part both ≡ Some mine → part spent ≡ None
      → IsDoneBy part pass done (set (set views pass both) other spent)
  done_back at done views pass other w both spent mine d there is is' none j u yours e has =
      let vs : List Hand = set views pass both in
      ⊎_elim
      (λ (x : (j ≡ other) × (spent ≡ u)). absurd (none-some yours (sym none ∙ ap part x.1 ∙ has)))
      (λ (x : (j ≢ other) × (get_elem? vs j ≡ some u)). ⊎_elim
      (λ (y : (j ≡ pass) × (both ≡ u)). (y.0, same_done u both yours mine y.1 has is' ∙ (d other w mine there is).1))
      (λ (y : (j ≢ pass) × (get_elem? views j ≡ some u)). absurd (x.0 ((d j u yours y.1 has).0 ∙ sym (d other w mine there is).0)))
      (at_set views pass j both u x.1))
      (at_set vs other j spent u e)
