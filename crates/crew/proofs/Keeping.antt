-- Each step of a post keeps its rule.
use Rattle.std.proofs.Common.{◌≡◌, ◌≢◌, ℕ, zero, suc, ◌==◌, ◌++◌, Bool, List, [], ◌∷◌, ◌⊎◌, inl, inr, ⊎_elim, Option, Some, None, refl, sym, ap, subst, ◌∙◌, arith, slice_index, slice_set, get_or, ne_eqb}
use Rattle.std.proofs.lemmas.Option.{none-some}
use mathlib.Core.Option.{some, none, some-injective, some-ne-none}
use lib.ListN.{get_elem?}
use prog.Atomic.{either}
use Rattle.atomic_table.specs.Table.{State, Me, Act, keeps, takes, gives, Valid, stepped, carried_after, Allows, Splits, opening}
use Rattle.crew.specs.declared.view.View.{View}
use Rattle.crew.specs.declared.view.Role.{Role}
use Rattle.crew.specs.declared.view.Role.TheVariants.{Alone, New, Leader, Helper}
use Rattle.crew.specs.Views.{alone, new, leading, helping}
use Rattle.crew.specs.Turns.{table_of, IsTurn, is_free, is_offered, is_begun, is_done, is_stopped, IsRuled, is_alone, is_new, is_paired}
use Rattle.crew.specs.Plays.{IsIdle, IsFree, IsReady, IsGiven, HasWorked, opened, offered, reclaimed, collected, stopped, began, ended}

abbrev rank : Role → ℕ
rank Alone = 0
rank New = 1
rank Leader = 2
rank Helper = 3

abbrev rank_of : {T : Type 0} → View T → ℕ
rank_of v = rank v.role

module _ {A : Type 0} where
  at_one : (a v : A) (id : ℕ) → get_elem? (a ∷ []) id ≡ some v → (id ≡ 0) × (a ≡ v)
  at_one a v zero e = (refl, some-injective a v e)
  at_one a v (suc id) e = absurd (some-ne-none v (sym e))

  at_two : (a b v : A) (id : ℕ) → get_elem? (a ∷ b ∷ []) id ≡ some v → ((id ≡ 0) × (a ≡ v)) ⊎ ((id ≡ 1) × (b ≡ v))
  at_two a b v zero e = inl (refl, some-injective a v e)
  at_two a b v (suc zero) e = inr (refl, some-injective b v e)
  at_two a b v (suc (suc id)) e = absurd (some-ne-none v (sym e))

module _ {T : Type 0} where
  -- no other view is that of the leader before the helper has a seat
  not_alone : (id : ℕ) (v : View T) → 0 ≢ rank_of v → get_elem? (alone ∷ []) id ≡ some v → ⊥
  not_alone id v other at = other (ap (rank_of {T = T}) (at_one alone v id at).1)

module _ {T : Type 0} (may_run : T → Type 0) (changes : T → T → Type 0) where
  abbrev Ruled : State T (View T) → Type 0
  Ruled s = IsRuled may_run changes s

  -- the seat can make its step in this state
  abbrev Goes : ℕ → Me T (View T) → (ℕ → ℕ) → (ℕ → Me T (View T) → Type 0) → State T (View T) → Type 0
  Goes id me f then s = (w : View T) × (a : Act T) × Valid s.homes me.1 a
      × Ruled (stepped s 0 (f (slice_index s.words 0)) id me.1 w a)
      × then (slice_index s.words 0) (w, carried_after me.1 a)

  -- a step of the leader, by whose turn it is
  leads : (id : ℕ) (given : Option T) (c : List (ℕ × T)) (f : ℕ → ℕ) (then : ℕ → Me T (View T) → Type 0)
      → ((word : ℕ) (home : mathlib.Core.Option.Option T) (begun : Option T) → IsTurn may_run changes word home given begun
      → Goes 0 (leading given, c) f then (table_of word home (leading given ∷ helping begun ∷ [])))
      → (s : State T (View T)) → Ruled s → get_elem? s.views id ≡ some (leading given) → Goes id (leading given, c) f then s
  leads id given c f then steps s (is_alone x e) at =
      absurd (not_alone id (leading given) (λ (same : 0 ≡ 2). omega arith) (subst (λ (t : State T (View T)). get_elem? t.views id ≡ some (leading given)) e at))
  leads id given c f then steps s (is_new x e) at = ⊎_elim
      (λ (h : (id ≡ 0) × (new ≡ leading given)). let ranks : 1 ≡ 2 = ap (rank_of {T = T}) h.1 in absurd (omega arith))
      (λ (h : (id ≡ 1) × (helping None ≡ leading given)). let ranks : 3 ≡ 2 = ap (rank_of {T = T}) h.1 in absurd (omega arith))
      (at_two new (helping None) (leading given) id (subst (λ (t : State T (View T)). get_elem? t.views id ≡ some (leading given)) e at))
  leads id given c f then steps s (is_paired word home other begun turn e) at = ⊎_elim
      (λ (h : (id ≡ 0) × (leading other ≡ leading given)).
      let same : other ≡ given = ap (λ (v : View T). v.item) h.1 in
      subst (Goes id (leading given, c) f then) (sym e)
      (subst (λ (i : ℕ). Goes i (leading given, c) f then (table_of word home (leading other ∷ helping begun ∷ []))) (sym h.0)
      (subst (λ (o : Option T). Goes 0 (leading given, c) f then (table_of word home (leading o ∷ helping begun ∷ []))) (sym same)
      (steps word home begun (subst (λ (o : Option T). IsTurn may_run changes word home o begun) same turn)))))
      (λ (h : (id ≡ 1) × (helping begun ≡ leading given)). let ranks : 3 ≡ 2 = ap (rank_of {T = T}) h.1 in absurd (omega arith))
      (at_two (leading other) (helping begun) (leading given) id (subst (λ (t : State T (View T)). get_elem? t.views id ≡ some (leading given)) e at))

  -- a step of the helper, by whose turn it is
  helps : (id : ℕ) (begun : Option T) (c : List (ℕ × T)) (f : ℕ → ℕ) (then : ℕ → Me T (View T) → Type 0)
      → ((word : ℕ) (home : mathlib.Core.Option.Option T) (given : Option T) → IsTurn may_run changes word home given begun
      → Goes 1 (helping begun, c) f then (table_of word home (leading given ∷ helping begun ∷ [])))
      → ((x : T) → begun ≡ None → Goes 1 (helping begun, c) f then (table_of 0 (some x) (new ∷ helping begun ∷ [])))
      → (s : State T (View T)) → Ruled s → get_elem? s.views id ≡ some (helping begun) → Goes id (helping begun, c) f then s
  helps id begun c f then steps first s (is_alone x e) at =
      absurd (not_alone id (helping begun) (λ (same : 0 ≡ 3). omega arith) (subst (λ (t : State T (View T)). get_elem? t.views id ≡ some (helping begun)) e at))
  helps id begun c f then steps first s (is_new x e) at = ⊎_elim
      (λ (h : (id ≡ 0) × (new ≡ helping begun)). let ranks : 1 ≡ 3 = ap (rank_of {T = T}) h.1 in absurd (omega arith))
      (λ (h : (id ≡ 1) × (helping None ≡ helping begun)).
      let same : None ≡ begun = ap (λ (v : View T). v.item) h.1 in
      subst (Goes id (helping begun, c) f then) (sym e)
      (subst (λ (i : ℕ). Goes i (helping begun, c) f then (table_of 0 (some x) (new ∷ helping None ∷ []))) (sym h.0)
      (subst (λ (o : Option T). Goes 1 (helping begun, c) f then (table_of 0 (some x) (new ∷ helping o ∷ []))) (sym same)
      (first x (sym same)))))
      (at_two new (helping None) (helping begun) id (subst (λ (t : State T (View T)). get_elem? t.views id ≡ some (helping begun)) e at))
  helps id begun c f then steps first s (is_paired word home given other turn e) at = ⊎_elim
      (λ (h : (id ≡ 0) × (leading given ≡ helping begun)). let ranks : 2 ≡ 3 = ap (rank_of {T = T}) h.1 in absurd (omega arith))
      (λ (h : (id ≡ 1) × (helping other ≡ helping begun)).
      let same : other ≡ begun = ap (λ (v : View T). v.item) h.1 in
      subst (Goes id (helping begun, c) f then) (sym e)
      (subst (λ (i : ℕ). Goes i (helping begun, c) f then (table_of word home (leading given ∷ helping other ∷ []))) (sym h.0)
      (subst (λ (o : Option T). Goes 1 (helping begun, c) f then (table_of word home (leading given ∷ helping o ∷ []))) (sym same)
      (steps word home given (subst (λ (o : Option T). IsTurn may_run changes word home given o) same turn)))))
      (at_two (leading given) (helping other) (helping begun) id (subst (λ (t : State T (View T)). get_elem? t.views id ≡ some (helping begun)) e at))

  -- where nothing is handed over, nothing is begun
  none_begun : (word : ℕ) (home : mathlib.Core.Option.Option T) (begun : Option T) → IsTurn may_run changes word home None begun → begun ≡ None
  none_begun word home begun (is_free w h g b) = b
  none_begun word home begun (is_offered x m w h g b) = b
  none_begun word home begun (is_begun x w h g b) = absurd (none-some x g)
  none_begun word home begun (is_done x y c w h g b) = b
  none_begun word home begun (is_stopped w h g b) = b

  -- where nothing is handed over, the leader holds the slot
  none_home : (word : ℕ) (home : mathlib.Core.Option.Option T) (begun : Option T) → IsTurn may_run changes word home None begun → home ≡ none
  none_home word home begun (is_free w h g b) = h
  none_home word home begun (is_offered x m w h g b) = absurd (none-some x g)
  none_home word home begun (is_begun x w h g b) = h
  none_home word home begun (is_done x y c w h g b) = absurd (none-some x g)
  none_home word home begun (is_stopped w h g b) = h

  pub rules_opening : (x : T) → Ruled (opening (0 ∷ []) (x ∷ []) alone)
  rules_opening x = is_alone x refl

  hires_alone : (id : ℕ) → Splits Ruled id alone new (helping None)
  hires_alone id s (is_alone x e) at =
      let here : (id ≡ 0) × (alone ≡ alone) = at_one alone alone id (subst (λ (t : State T (View T)). get_elem? t.views id ≡ some alone) e at) in
      subst (λ (t : State T (View T)). Ruled record { words = t.words; homes = t.homes; views = slice_set t.views id new ++ helping None ∷ [] }) (sym e)
      (subst (λ (i : ℕ). Ruled record { words = 0 ∷ []; homes = some x ∷ []; views = slice_set (alone ∷ []) i new ++ helping None ∷ [] }) (sym here.0)
      (is_new x refl))
  hires_alone id s (is_new x e) at = ⊎_elim
      (λ (h : (id ≡ 0) × (new ≡ alone)). let ranks : 1 ≡ 0 = ap (rank_of {T = T}) h.1 in absurd (omega arith))
      (λ (h : (id ≡ 1) × (helping None ≡ alone)). let ranks : 3 ≡ 0 = ap (rank_of {T = T}) h.1 in absurd (omega arith))
      (at_two new (helping None) alone id (subst (λ (t : State T (View T)). get_elem? t.views id ≡ some alone) e at))
  hires_alone id s (is_paired word home given begun turn e) at = ⊎_elim
      (λ (h : (id ≡ 0) × (leading given ≡ alone)). let ranks : 2 ≡ 0 = ap (rank_of {T = T}) h.1 in absurd (omega arith))
      (λ (h : (id ≡ 1) × (helping begun ≡ alone)). let ranks : 3 ≡ 0 = ap (rank_of {T = T}) h.1 in absurd (omega arith))
      (at_two (leading given) (helping begun) alone id (subst (λ (t : State T (View T)). get_elem? t.views id ≡ some alone) e at))

  pub hires : (id : ℕ) (me : Me T (View T)) → me ≡ (alone, []) → Splits Ruled id me.0 new (helping None)
  hires id me e = subst (λ (m : Me T (View T)). Splits Ruled id m.0 new (helping None)) (sym e) (hires_alone id)

  opens_at : (id : ℕ) (s : State T (View T)) → Ruled s → get_elem? s.views id ≡ some new
      → Goes id (new, []) (λ _. 0) (λ _ m. opened (new, []) 0 m) s
  opens_at id s (is_alone x e) at =
      absurd (not_alone id new (λ (same : 0 ≡ 1). omega arith) (subst (λ (t : State T (View T)). get_elem? t.views id ≡ some new) e at))
  opens_at id s (is_new x e) at = ⊎_elim
      (λ (h : (id ≡ 0) × (new ≡ new)).
      subst (Goes id (new, []) (λ _. 0) (λ _ m. opened (new, []) 0 m)) (sym e)
      (subst (λ (i : ℕ). Goes i (new, []) (λ _. 0) (λ _ m. opened (new, []) 0 m) (table_of 0 (some x) (new ∷ helping None ∷ []))) (sym h.0)
      (leading None, takes 0 x, refl, is_paired 0 none None None (is_free refl refl refl refl) refl, record { kept = x; is = refl })))
      (λ (h : (id ≡ 1) × (helping None ≡ new)). let ranks : 3 ≡ 1 = ap (rank_of {T = T}) h.1 in absurd (omega arith))
      (at_two new (helping None) new id (subst (λ (t : State T (View T)). get_elem? t.views id ≡ some new) e at))
  opens_at id s (is_paired word home given begun turn e) at = ⊎_elim
      (λ (h : (id ≡ 0) × (leading given ≡ new)). let ranks : 2 ≡ 1 = ap (rank_of {T = T}) h.1 in absurd (omega arith))
      (λ (h : (id ≡ 1) × (helping begun ≡ new)). let ranks : 3 ≡ 1 = ap (rank_of {T = T}) h.1 in absurd (omega arith))
      (at_two (leading given) (helping begun) new id (subst (λ (t : State T (View T)). get_elem? t.views id ≡ some new) e at))

  opens_new : (slots id : ℕ) → Allows Ruled slots id (new, []) 0 (λ _. 0) (λ _. opened (new, []) 0)
  opens_new slots id s ruled len at wide = opens_at id s ruled at

  pub opens : (slots id : ℕ) (me : Me T (View T)) → me ≡ (new, []) → Allows Ruled slots id me 0 (λ _. 0) (λ _. opened me 0)
  opens slots id me e = subst (λ (m : Me T (View T)). Allows Ruled slots id m 0 (λ _. 0) (λ _. opened m 0)) (sym e) (opens_new slots id)

  offers_ready : (slots id : ℕ) (x : T) → may_run x
      → Allows Ruled slots id (leading None, (0, x) ∷ []) 0 (λ _. 1) (λ _. offered (leading None, (0, x) ∷ []) 1)
  offers_ready slots id x may s ruled len at wide = leads id None ((0, x) ∷ []) (λ _. 1) (λ _. offered (leading None, (0, x) ∷ []) 1)
      (λ word home begun turn. (
        leading (Some x),
        gives,
        tt,
        is_paired 1 (some x) (Some x) begun (is_offered x may refl refl refl (none_begun word home begun turn)) refl,
        (λ y same. ap (λ (z : T). (leading (Some z), [])) (ap (λ (m : Me T (View T)). (get_or m.1 0 (0, x)).1) same)),
      )) s ruled at

  pub offers : (slots id : ℕ) (me : Me T (View T)) → IsReady may_run me → Allows Ruled slots id me 0 (λ _. 1) (λ _. offered me 1)
  offers slots id me ready = subst (λ (m : Me T (View T)). Allows Ruled slots id m 0 (λ _. 1) (λ _. offered m 1)) (sym ready.free)
      (offers_ready slots id ready.item ready.may)

  stops_free : (slots id : ℕ) (x : T) → Allows Ruled slots id (leading None, (0, x) ∷ []) 0 (λ _. 4) (λ _. stopped (leading None, (0, x) ∷ []) 4)
  stops_free slots id x s ruled len at wide = leads id None ((0, x) ∷ []) (λ _. 4) (λ _. stopped (leading None, (0, x) ∷ []) 4)
      (λ word home begun turn. (
        leading None,
        keeps,
        tt,
        is_paired 4 home None begun (is_stopped refl (none_home word home begun turn) refl (none_begun word home begun turn)) refl,
        refl,
      )) s ruled at

  pub stops : (slots id : ℕ) (me : Me T (View T)) → IsFree me → Allows Ruled slots id me 0 (λ _. 4) (λ _. stopped me 4)
  stops slots id me free = subst (λ (m : Me T (View T)). Allows Ruled slots id m 0 (λ _. 4) (λ _. stopped m 4)) (sym free.is)
      (stops_free slots id free.kept)

  -- a step that finds another number, and changes nothing
  misses_led : (word : ℕ) (home : mathlib.Core.Option.Option T) (given begun : Option T) (old new : ℕ) (then : ℕ → Me T (View T) → Type 0)
      → IsTurn may_run changes word home given begun → word ≢ old → then word (leading given, [])
      → Goes 0 (leading given, []) (λ n. either (n == old) new n) then (table_of word home (leading given ∷ helping begun ∷ []))
  misses_led word home given begun old new then turn miss told = (
    leading given,
    keeps,
    tt,
    subst (λ (b : Bool). Ruled (table_of (either b new word) home (leading given ∷ helping begun ∷ []))) (sym (ne_eqb word old miss)) (is_paired word home given begun turn refl),
    told,
  )

  -- the same of the helper
  misses_helped : (word : ℕ) (home : mathlib.Core.Option.Option T) (given begun : Option T) (old new : ℕ) (then : ℕ → Me T (View T) → Type 0)
      → IsTurn may_run changes word home given begun → word ≢ old → then word (helping begun, [])
      → Goes 1 (helping begun, []) (λ n. either (n == old) new n) then (table_of word home (leading given ∷ helping begun ∷ []))
  misses_helped word home given begun old new then turn miss told = (
    helping begun,
    keeps,
    tt,
    subst (λ (b : Bool). Ruled (table_of (either b new word) home (leading given ∷ helping begun ∷ []))) (sym (ne_eqb word old miss)) (is_paired word home given begun turn refl),
    told,
  )

  reclaims_given : (slots id : ℕ) (x : T)
      → Allows Ruled slots id (leading (Some x), []) 0 (λ n. either (n == 1) 0 n) (reclaimed (leading (Some x), []))
  reclaims_given slots id x s ruled len at wide = leads id (Some x) [] (λ n. either (n == 1) 0 n) (reclaimed (leading (Some x), [])) go s ruled at
    where
      G : ℕ → mathlib.Core.Option.Option T → Option T → Type 0
      G word home begun = Goes 0 (leading (Some x), []) (λ n. either (n == 1) 0 n) (reclaimed (leading (Some x), [])) (table_of word home (leading (Some x) ∷ helping begun ∷ []))

      other : (word : ℕ) (home : mathlib.Core.Option.Option T) (begun : Option T) → IsTurn may_run changes word home (Some x) begun → word ≢ 1 → G word home begun
      other word home begun turn miss = misses_led word home (Some x) begun 1 0 (reclaimed (leading (Some x), [])) turn miss ((λ e. absurd (miss e)), λ _. refl)

      go : (word : ℕ) (home : mathlib.Core.Option.Option T) (begun : Option T) → IsTurn may_run changes word home (Some x) begun → G word home begun
      go word home begun (is_free w h g b) = absurd (none-some x (sym g))
      go word home begun (is_offered y may w h g b) =
          subst (λ (n : ℕ). G n home begun) (sym w) (subst (λ (o : mathlib.Core.Option.Option T). G 1 o begun) (sym h) (
            leading None,
            takes 0 y,
            refl,
            is_paired 0 none None begun (is_free refl refl refl b) refl,
            ((λ _. record { item = y; given_is = g; free = refl }), λ miss. absurd (miss refl)),
          ))
      go word home begun (is_begun y w h g b) = other word home begun (is_begun y w h g b) (λ e. omega arith)
      go word home begun (is_done y z c w h g b) = other word home begun (is_done y z c w h g b) (λ e. omega arith)
      go word home begun (is_stopped w h g b) = absurd (none-some x (sym g))

  pub reclaims : (slots id : ℕ) (me : Me T (View T)) → IsGiven may_run me
      → Allows Ruled slots id me 0 (λ n. either (n == 1) 0 n) (reclaimed me)
  reclaims slots id me given = subst (λ (m : Me T (View T)). Allows Ruled slots id m 0 (λ n. either (n == 1) 0 n) (reclaimed m)) (sym given.given)
      (reclaims_given slots id given.item)

  collects_given : (slots id : ℕ) (x : T)
      → Allows Ruled slots id (leading (Some x), []) 0 (λ n. either (n == 3) 0 n) (collected changes (leading (Some x), []))
  collects_given slots id x s ruled len at wide = leads id (Some x) [] (λ n. either (n == 3) 0 n) (collected changes (leading (Some x), [])) go s ruled at
    where
      G : ℕ → mathlib.Core.Option.Option T → Option T → Type 0
      G word home begun = Goes 0 (leading (Some x), []) (λ n. either (n == 3) 0 n) (collected changes (leading (Some x), [])) (table_of word home (leading (Some x) ∷ helping begun ∷ []))

      other : (word : ℕ) (home : mathlib.Core.Option.Option T) (begun : Option T) → IsTurn may_run changes word home (Some x) begun → word ≢ 3 → G word home begun
      other word home begun turn miss = misses_led word home (Some x) begun 3 0 (collected changes (leading (Some x), [])) turn miss ((λ e. absurd (miss e)), λ _. refl)

      go : (word : ℕ) (home : mathlib.Core.Option.Option T) (begun : Option T) → IsTurn may_run changes word home (Some x) begun → G word home begun
      go word home begun (is_free w h g b) = absurd (none-some x (sym g))
      go word home begun (is_offered y may w h g b) = other word home begun (is_offered y may w h g b) (λ e. omega arith)
      go word home begun (is_begun y w h g b) = other word home begun (is_begun y w h g b) (λ e. omega arith)
      go word home begun (is_done y z c w h g b) =
          subst (λ (n : ℕ). G n home begun) (sym w) (subst (λ (o : mathlib.Core.Option.Option T). G 3 o begun) (sym h) (
            leading None,
            takes 0 z,
            refl,
            is_paired 0 none None begun (is_free refl refl refl b) refl,
            ((λ _. record { before = y; after = z; given_is = g; changed = c; free = refl }), λ miss. absurd (miss refl)),
          ))
      go word home begun (is_stopped w h g b) = absurd (none-some x (sym g))

  pub collects : (slots id : ℕ) (me : Me T (View T)) → IsGiven may_run me
      → Allows Ruled slots id me 0 (λ n. either (n == 3) 0 n) (collected changes me)
  collects slots id me given = subst (λ (m : Me T (View T)). Allows Ruled slots id m 0 (λ n. either (n == 3) 0 n) (collected changes m)) (sym given.given)
      (collects_given slots id given.item)

  begins_idle : (slots id : ℕ)
      → Allows Ruled slots id (helping None, []) 0 (λ n. either (n == 1) 2 n) (began may_run (helping None, []))
  begins_idle slots id s ruled len at wide = helps id None [] (λ n. either (n == 1) 2 n) (began may_run (helping None, [])) go first s ruled at
    where
      G : ℕ → mathlib.Core.Option.Option T → Option T → Type 0
      G word home given = Goes 1 (helping None, []) (λ n. either (n == 1) 2 n) (began may_run (helping None, [])) (table_of word home (leading given ∷ helping None ∷ []))

      first : (x : T) → ◌≡◌ {A = Option T} None None → Goes 1 (helping None, []) (λ n. either (n == 1) 2 n) (began may_run (helping None, [])) (table_of 0 (some x) (new ∷ helping None ∷ []))
      first x same = (helping None, keeps, tt, is_new x refl, ((λ (e : 0 ≡ 1). absurd (omega arith)), λ _. refl))

      other : (word : ℕ) (home : mathlib.Core.Option.Option T) (given : Option T) → IsTurn may_run changes word home given None → word ≢ 1 → G word home given
      other word home given turn miss = misses_helped word home given None 1 2 (began may_run (helping None, [])) turn miss ((λ e. absurd (miss e)), λ _. refl)

      go : (word : ℕ) (home : mathlib.Core.Option.Option T) (given : Option T) → IsTurn may_run changes word home given None → G word home given
      go word home given (is_free w h g b) = other word home given (is_free w h g b) (λ e. omega arith)
      go word home given (is_offered y may w h g b) =
          subst (λ (n : ℕ). G n home given) (sym w) (subst (λ (o : mathlib.Core.Option.Option T). G 1 o given) (sym h) (
            helping (Some y),
            takes 0 y,
            refl,
            is_paired 2 none given (Some y) (is_begun y refl refl g refl) refl,
            ((λ _. record { item = y; may = may; begun = refl }), λ miss. absurd (miss refl)),
          ))
      go word home given (is_begun y w h g b) = absurd (none-some y b)
      go word home given (is_done y z c w h g b) = other word home given (is_done y z c w h g b) (λ e. omega arith)
      go word home given (is_stopped w h g b) = other word home given (is_stopped w h g b) (λ e. omega arith)

  pub begins : (slots id : ℕ) (me : Me T (View T)) → IsIdle me
      → Allows Ruled slots id me 0 (λ n. either (n == 1) 2 n) (began may_run me)
  begins slots id me idle = subst (λ (m : Me T (View T)). Allows Ruled slots id m 0 (λ n. either (n == 1) 2 n) (began may_run m)) (sym idle)
      (begins_idle slots id)

  ends_worked : (slots id : ℕ) (x y : T) → changes x y
      → Allows Ruled slots id (helping (Some x), (0, y) ∷ []) 0 (λ _. 3) (λ _. ended (helping (Some x), (0, y) ∷ []) 3)
  ends_worked slots id x y change s ruled len at wide = helps id (Some x) ((0, y) ∷ []) (λ _. 3) (λ _. ended (helping (Some x), (0, y) ∷ []) 3) go (λ z same. absurd (none-some x (sym same))) s ruled at
    where
      G : ℕ → mathlib.Core.Option.Option T → Option T → Type 0
      G word home given = Goes 1 (helping (Some x), (0, y) ∷ []) (λ _. 3) (λ _. ended (helping (Some x), (0, y) ∷ []) 3) (table_of word home (leading given ∷ helping (Some x) ∷ []))

      go : (word : ℕ) (home : mathlib.Core.Option.Option T) (given : Option T) → IsTurn may_run changes word home given (Some x) → G word home given
      go word home given (is_free w h g b) = absurd (none-some x (sym b))
      go word home given (is_offered z may w h g b) = absurd (none-some x (sym b))
      go word home given (is_begun z w h g b) = (
        helping None,
        gives,
        tt,
        is_paired 3 (some y) given None (is_done x y change refl refl (g ∙ sym b) refl) refl,
        refl,
      )
      go word home given (is_done z u c w h g b) = absurd (none-some x (sym b))
      go word home given (is_stopped w h g b) = absurd (none-some x (sym b))

  pub ends : (slots id : ℕ) (me : Me T (View T)) → HasWorked changes me → Allows Ruled slots id me 0 (λ _. 3) (λ _. ended me 3)
  ends slots id me done = subst (λ (m : Me T (View T)). Allows Ruled slots id m 0 (λ _. 3) (λ _. ended m 3)) (sym done.worked)
      (ends_worked slots id done.before done.after done.changed)
