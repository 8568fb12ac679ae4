-- From a seat's next step to the word that it leaves.
use Rattle.std.proofs.Common.{◌≡◌, ℕ, ◌+◌, ◌-◌, ◌*◌, ◌==◌, Bool, true, false, List, [], ◌∷◌, ◌++◌, refl, sym, ap, ◌∙◌, subst, Option, Some, None, is_some, suc, if◌then◌else◌, arith, add-one}
use Rattle.entity_recs.specs.declared.effect.Effect.{Effect}
use Rattle.entity_recs.specs.Commands.{Command}
use Rattle.core_steps.specs.declared.sizes.TheConstants.{NODE_HOLDERS}
use Rattle.core_steps.specs.declared.step.StepKind.TheVariants.{Take}
use Rattle.core_steps.specs.Nodes.{Fixed, is_leaf, write_nodes}
use Rattle.core_steps.specs.Points.{Store, Clear, Put, Link, Point, Idle, Owning, Taking, Checking, Entering, Entered}
use Rattle.core_steps.specs.Points.{Loading, Leaving, Sensing, Resolving, Claiming, Storing, Releasing, Returning}
use Rattle.core_steps.specs.Points.{Yielding, stage_of, is_whole, is_writing, stores_owed}
use Rattle.core_steps.specs.Reads.{View, record_read}
use Rattle.core_steps.specs.Held.{leaf_word}
use Rattle.core_steps.specs.Steps.{point_after_take, taking, next_give, first_yield}
use Rattle.core_steps.specs.Machine.{Next, Begin, LoadOwn, LoadAgain, TakeNode, ClaimNode, ReadList, ReadPlayer, ReadState, CommitMove, StoreWord, GiveNode, beginning, committing, giving, quitting, resolving, kind_of, index_of}
use Rattle.core_seats.specs.Going.{word_left}
use Rattle.core_seats.specs.Nexts.{next_point, next_with, the_next}
use Rattle.core_seats.proofs.Steps.{some_next}
use Rattle.core_machine.specs.WordsLeft.{takes_to_write, first_stored, word_by_kind}

no_less : (node : ℕ) → 1 + node - 1 ≡ node
no_less node = omega arith

-- no inner node is held to write while leaves are taken
not_writing : (got rest : List ℕ) → is_writing (stage_of (taking got rest)) ≡ false
not_writing got [] = refl
not_writing got (leaf ∷ rest) = refl

-- the word that a step leaves follows from its kind, and a take comes where leaves are wanted
pub record IsLeftByKind (F : Fixed) (i : ℕ) (view : View) (found : ℕ) (next : Next) : Type 0 where
  pub word : word_left F i view next found ≡ word_by_kind F i view (kind_of next) (index_of view next) found
  pub whole : kind_of next ≡ Take → is_whole (stage_of view.point) ≡ true

module _ (F : Fixed) (i : ℕ) (view : View) (given : Option Command) (effect : Option Effect) (found : ℕ) where
  abbrev IsByKind : Next → Type 0
  IsByKind next = IsLeftByKind F i view found next

  as_next : (a next : Next) → Some a ≡ Some next → IsByKind a → IsByKind next
  as_next a next same is = let equal : a ≡ next = cc in subst IsByKind equal is

  -- the word of a node that is taken, to write or not
  abbrev held : Bool → ℕ → ℕ
  held writing node =
      if found == 0 then suc (i + NODE_HOLDERS * (if is_leaf F node then leaf_word F view.wanted else (if writing then 1 else 0))) else found

  taken : (node : ℕ) (point : Point) → view.point ≡ point → is_writing (stage_of (point_after_take node point)) ≡ takes_to_write point → is_whole (stage_of point) ≡ true → IsByKind (TakeNode node)
  taken node point at same whole = record {
    word = ap (λ (w : Bool). held w node) (ap (λ (p : Point). is_writing (stage_of (point_after_take node p))) at ∙ same ∙ sym (ap takes_to_write at))
        ∙ ap (held (takes_to_write view.point)) (sym (no_less node));
    whole = λ _. ap (λ (p : Point). is_whole (stage_of p)) at ∙ whole;
  }

  claimed : (e : Effect) (node : ℕ) → view.point ≡ Resolving → IsByKind (ClaimNode e node)
  claimed e node at = record {
    word = ap (λ (w : Bool). held w node) (sym (ap takes_to_write at)) ∙ ap (held (takes_to_write view.point)) (sym (no_less node));
    whole = λ _. ap (λ (p : Point). is_whole (stage_of p)) at;
  }

  stored : (nodes : List ℕ) (store : Store) (stores : List Store) → view.point ≡ Storing nodes (store ∷ stores) → IsByKind (StoreWord nodes store stores)
  stored nodes (Clear node) stores at = record { word = sym (ap (λ (p : Point). first_stored view.cmd.slot (stores_owed p) found) at); whole = λ e. cc }
  stored nodes (Put cell x) stores at = record { word = sym (ap (λ (p : Point). first_stored view.cmd.slot (stores_owed p) found) at); whole = λ e. cc }
  stored nodes (Link node) stores at = record { word = sym (ap (λ (p : Point). first_stored view.cmd.slot (stores_owed p) found) at); whole = λ e. cc }

  committed : (e : Effect) (nodes : List ℕ) → IsByKind (CommitMove e nodes)
  committed e nodes = record { word = sym (add-one found); whole = λ e. cc }

  begun : (c : Option Command) (next : Next) → beginning c ≡ Some next → IsByKind next
  begun None next comes = cc
  begun (Some c) next comes = as_next (Begin c) next comes (record { word = refl; whole = λ e. cc })

  given_back : (node : Option ℕ) (next : Next) → giving node ≡ Some next → IsByKind next
  given_back None next comes = cc
  given_back (Some node) next comes = as_next (GiveNode node) next comes (record { word = refl; whole = λ e. cc })

  committed_with : (e : Option Effect) (nodes : List ℕ) (next : Next) → committing e nodes ≡ Some next → IsByKind next
  committed_with None nodes next comes = cc
  committed_with (Some e) nodes next comes = as_next (CommitMove e nodes) next comes (committed e nodes)

  resolved : (e : Effect) (nodes : List ℕ) → view.point ≡ Resolving → IsByKind (resolving e nodes)
  resolved e [] at = committed e []
  resolved e (node ∷ nodes) at = claimed e node at

  resolved_with : (o : Option Effect) (next : Next) → view.point ≡ Resolving → next_point F view given o Resolving ≡ Some next → IsByKind next
  resolved_with None next at comes = cc
  resolved_with (Some e) next at comes =
      let nodes = write_nodes F (record_read view.cmd.slot view.again) e in
      as_next (resolving e nodes) next comes (resolved e nodes at)

  by_point : (point : Point) (next : Next) → view.point ≡ point → next_point F view given effect point ≡ Some next → IsByKind next
  by_point Idle next at comes = begun given next comes
  by_point Owning next at comes = as_next LoadOwn next comes (record { word = refl; whole = λ e. cc })
  by_point (Taking got []) next at comes = cc
  by_point (Taking got (leaf ∷ rest)) next at comes =
      as_next (TakeNode leaf) next comes (taken leaf (Taking got (leaf ∷ rest)) at (not_writing (got ++ leaf ∷ []) rest) refl)
  by_point Checking next at comes = as_next LoadAgain next comes (record { word = refl; whole = λ e. cc })
  by_point (Entering node plan) next at comes = as_next (TakeNode node) next comes (taken node (Entering node plan) at refl refl)
  by_point (Entered node plan) next at comes = as_next (ReadList node plan) next comes (record { word = refl; whole = λ e. cc })
  by_point (Loading node part [] plan) next at comes = cc
  by_point (Loading node part (slot ∷ players) plan) next at comes =
      as_next (ReadPlayer node part slot players plan) next comes (record { word = refl; whole = λ e. cc })
  by_point (Leaving node plan) next at comes = as_next (GiveNode node) next comes (record { word = refl; whole = λ e. cc })
  by_point (Sensing []) next at comes = cc
  by_point (Sensing (id ∷ ids)) next at comes = as_next (ReadState id ids) next comes (record { word = refl; whole = λ e. cc })
  by_point Resolving next at comes = resolved_with effect next at comes
  by_point (Claiming got []) next at comes = committed_with view.effect got next comes
  by_point (Claiming got (node ∷ rest)) next at comes = as_next (TakeNode node) next comes (taken node (Claiming got (node ∷ rest)) at refl refl)
  by_point (Storing nodes []) next at comes = cc
  by_point (Storing nodes (store ∷ stores)) next at comes = as_next (StoreWord nodes store stores) next comes (stored nodes store stores at)
  by_point (Releasing nodes) next at comes = given_back (next_give (Releasing nodes) view.wanted) next comes
  by_point (Returning leaves) next at comes = given_back (next_give (Returning leaves) view.wanted) next comes
  by_point (Yielding nodes leaves) next at comes = given_back (next_give (Yielding nodes leaves) view.wanted) next comes

  by_yield : (node : Option ℕ) → IsByKind (quitting node)
  by_yield None = record { word = refl; whole = λ e. cc }
  by_yield (Some node) = record { word = refl; whole = λ e. cc }

  by_quits : (quits : Bool) (next : Next) → next_with F view given quits effect ≡ Some next → IsByKind next
  by_quits true next comes = as_next (quitting (first_yield F view)) next comes (by_yield (first_yield F view))
  by_quits false next comes = by_point view.point next refl comes

  -- what comes next
  pub the_next_is_by_kind : (quits : Bool) → is_some (next_with F view given quits effect) ≡ true → IsByKind (the_next (next_with F view given quits effect))
  the_next_is_by_kind quits some = by_quits quits (the_next (next_with F view given quits effect)) (some_next (next_with F view given quits effect) some)
