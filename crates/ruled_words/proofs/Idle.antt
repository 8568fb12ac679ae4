-- A machine that has nothing asked of it, and the places of a list.
use Rattle.std.proofs.Common.{◌≡◌, ◌⊎◌, ℕ, zero, suc, ◌<◌, List, [], ◌∷◌, ◌++◌, length, refl, sym, ap, inl, inr, Some, None, arith}
use mathlib.Core.Option as maybe
use mathlib.Core.Option.{some-injective, some-ne-none}
use lib.ListN.{get_elem?}
use Rattle.std.proofs.lemmas.Bool.{false≢true}
use Rattle.entity_recs.specs.Worlds.{World}
use Rattle.entity_recs.specs.Histories.{Item}
use Rattle.core_steps.specs.Cells.{put}
use Rattle.core_steps.specs.Nodes.{Fixed}
use Rattle.core_steps.specs.Reads.{View, new_view}
use Rattle.core_steps.specs.Steps.{Core}
use Rattle.core_steps.specs.Stands.{Stands}
use Rattle.core_steps.specs.Machine.{HasNext, ViewFits, MachineStands}
use Rattle.core_steps.proofs.Puts.{each_put}
use Rattle.core_steps.proofs.Machines.{fits_none}
use Rattle.ruled_words.specs.Rule.{at_rest}

-- what holds of a resting machine beyond its core
pub record EachViewFits (F : Fixed) (core : Core) : Type 0 where
  pub next : (i : ℕ) → HasNext (core.view i).point (core.view i).wanted
  pub fits : (i : ℕ) → ViewFits F (core.view i)

none_given : {R : Type 0} {X : Type 0} (x : X) → None ≡ Some x → R
none_given x e = cc

pub stands_at_rest : (F : Fixed) (core : Core) (history : List Item) (now : World) → EachViewFits F core → Stands F core history now → MachineStands F (at_rest core) history now
stands_at_rest F core history now each is = record {
  core = is;
  pending = λ i c e. none_given c e;
  given_apart = λ i j c d differ e f. none_given c e;
  busy_apart = λ i j c differ e busy. none_given c e;
  quits = λ i q. absurd (false≢true q);
  next = each.next;
  fits = each.fits;
}

pub each_fits : (F : Fixed) (core : Core) (history : List Item) (now : World) → MachineStands F (at_rest core) history now → EachViewFits F core
each_fits F core history now is = record { next = is.next; fits = is.fits }

-- a view that differs in neither point nor reads
pub fits_new : (F : Fixed) (room : ℕ) → ViewFits F (new_view room)
fits_new F room = fits_none F

pub next_new : (room : ℕ) → HasNext (new_view room).point (new_view room).wanted
next_new room = record { some_wanted = λ e. absurd (false≢true e); left = tt }

pub put_fits : (F : Fixed) (core : Core) (words : _) (i : ℕ) (view : View) → EachViewFits F core → HasNext view.point view.wanted → ViewFits F view
    → EachViewFits F (record { words = words; view = put i view core.view })
put_fits F core words i view each next fits = record {
  next = each_put (λ (k : ℕ) (v : View). HasNext v.point v.wanted) i view core.view next (λ k _. each.next k);
  fits = each_put (λ (k : ℕ) (v : View). ViewFits F v) i view core.view fits (λ k _. each.fits k);
}

-- what is in a list with one more at its end
pub at_end : {A : Type 0} (xs : List A) (a b : A) (j : ℕ) → get_elem? (xs ++ a ∷ []) j ≡ maybe.some b → (get_elem? xs j ≡ maybe.some b) ⊎ ((j ≡ length xs) × (a ≡ b))
at_end [] a b zero e = inr (refl, some-injective a b e)
at_end [] a b (suc j) e = absurd (some-ne-none b (sym e))
at_end (x ∷ xs) a b zero e = inl e
at_end (x ∷ xs) a b (suc j) e = elim (at_end xs a b j e) [ inl is ↦ inl is | inr is ↦ inr (ap suc is.0, is.1) ]

-- a place of a list is below its length
pub place_below : {A : Type 0} (xs : List A) (i : ℕ) (x : A) → get_elem? xs i ≡ maybe.some x → i < length xs
place_below [] i x e = absurd (some-ne-none x (sym e))
place_below (y ∷ ys) zero x e = omega arith
place_below (y ∷ ys) (suc i) x e = let below = place_below ys i x e in omega arith
