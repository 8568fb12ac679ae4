-- The last refused take that a view keeps is among those that its seat was refused, which the view counts.
use Rattle.std.proofs.Common.{◌≡◌, ℕ, suc, ◌+◌, ◌-◌, ◌^◌, min, arith, ◌∙◌, Bool, true, false, if◌then◌else◌, List, [], ◌∷◌, ◌++◌, length, refl, sym, subst, inl, inr, Option, None}
use Rattle.std.specs.Prelude.{◌==◌}
use Rattle.std.proofs.lemmas.Bool.{cases_Bool}
use Rattle.core_steps.specs.Nodes.{Fixed}
use Rattle.core_steps.specs.Points.{Point, Idle, Owning, Taking, Checking, Entering, Entered, Loading, Leaving, Sensing}
use Rattle.core_steps.specs.Points.{Resolving, Claiming, Storing, Releasing, Returning, Yielding}
use Rattle.core_steps.specs.Reads.{View, Refused}
use Rattle.core_steps.specs.Held.{inner_held, leaves_held}
use Rattle.core_steps.specs.Steps.{rest_of, returning, released, yielding, yielded, view_after_give}
use Rattle.core_steps.specs.Machine.{Next, Begin, LoadOwn, LoadAgain, TakeNode, ClaimNode, ReadList, ReadPlayer, ReadState, CommitMove, StoreWord, GiveNode, YieldNode, YieldCount}
use Rattle.core_seats.specs.Going.{view_found}
use Rattle.ruled_words.specs.Sights.{Tally, tally_after}
use Rattle.core_steps.specs.Calls.{node_taken}
use Rattle.ruled_words.specs.Passes.{RefusalIsListed, AreCounted}

-- the count and the last one of the refused takes are as before
record SameRefusals (old new : View) : Type 0 where
  count : new.refusals ≡ old.refusals
  last : new.refused ≡ old.refused

keeps_returning : (view : View) (leaves : List ℕ) → SameRefusals view (returning view leaves)
keeps_returning view [] = record { count = refl; last = refl }
keeps_returning view (leaf ∷ leaves) = record { count = refl; last = refl }

keeps_released : (view : View) (nodes : List ℕ) → SameRefusals view (released view nodes)
keeps_released view [] = keeps_returning view (rest_of view.wanted)
keeps_released view (node ∷ nodes) = record { count = refl; last = refl }

keeps_yielding : (view : View) (nodes leaves : List ℕ) → SameRefusals view (yielding view nodes leaves)
keeps_yielding view [] [] = record { count = refl; last = refl }
keeps_yielding view [] (leaf ∷ leaves) = record { count = refl; last = refl }
keeps_yielding view (node ∷ nodes) leaves = record { count = refl; last = refl }

keeps_yielded : (view : View) (nodes leaves : List ℕ) → SameRefusals view (yielded view nodes leaves)
keeps_yielded view [] leaves = keeps_yielding view [] (rest_of leaves)
keeps_yielded view (node ∷ nodes) leaves = keeps_yielding view nodes leaves

keeps_given : (F : Fixed) (view : View) (point : Point) → SameRefusals view (view_after_give F view point)
keeps_given F view Idle = record { count = refl; last = refl }
keeps_given F view Owning = record { count = refl; last = refl }
keeps_given F view (Taking got rest) = record { count = refl; last = refl }
keeps_given F view Checking = record { count = refl; last = refl }
keeps_given F view (Entering node plan) = record { count = refl; last = refl }
keeps_given F view (Entered node plan) = record { count = refl; last = refl }
keeps_given F view (Loading node part players plan) = record { count = refl; last = refl }
keeps_given F view (Leaving node plan) = record { count = refl; last = refl }
keeps_given F view (Sensing ids) = record { count = refl; last = refl }
keeps_given F view Resolving = record { count = refl; last = refl }
keeps_given F view (Claiming got rest) = record { count = refl; last = refl }
keeps_given F view (Storing nodes stores) = record { count = refl; last = refl }
keeps_given F view (Releasing nodes) = keeps_released view nodes
keeps_given F view (Returning leaves) = keeps_returning view (rest_of leaves)
keeps_given F view (Yielding nodes leaves) = keeps_yielded view nodes leaves

either_keeps : (b : Bool) (old one two : View) → SameRefusals old one → SameRefusals old two → SameRefusals old (if b then one else two)
either_keeps true old one two first second = first
either_keeps false old one two first second = second

-- what a step that takes no node leaves of the refused takes
quiet_step : (F : Fixed) (view : View) (next : Next) (found : ℕ) → node_taken next ≡ None → SameRefusals view (view_found F view next found)
quiet_step F view (Begin c) found e = record { count = refl; last = refl }
quiet_step F view LoadOwn found e = either_keeps (length (view.own ++ found ∷ []) == 6) view _ _ (record { count = refl; last = refl }) (record { count = refl; last = refl })
quiet_step F view LoadAgain found e = either_keeps (length (view.again ++ found ∷ []) == 6) view _ _ (record { count = refl; last = refl }) (record { count = refl; last = refl })
quiet_step F view (TakeNode node) found e = cc
quiet_step F view (ClaimNode f node) found e = cc
quiet_step F view (ReadList node plan) found e = record { count = refl; last = refl }
quiet_step F view (ReadPlayer node part slot players plan) found e =
    either_keeps (length (part ++ found ∷ []) == 6) view _ _ (record { count = refl; last = refl }) (record { count = refl; last = refl })
quiet_step F view (ReadState id ids) found e = record { count = refl; last = refl }
quiet_step F view (CommitMove f nodes) found e = record { count = refl; last = refl }
quiet_step F view (StoreWord nodes store stores) found e = record { count = refl; last = refl }
quiet_step F view (GiveNode node) found e = keeps_given F view view.point
quiet_step F view (YieldNode node) found e = keeps_yielded view (inner_held F view.point) (leaves_held view.point view.wanted)
quiet_step F view YieldCount found e = record { count = refl; last = refl }

still_listed : (F : Fixed) (view : View) (next : Next) (found : ℕ) (tally : Tally) → node_taken next ≡ None → RefusalIsListed view.refused tally.refused
    → RefusalIsListed (view_found F view next found).refused tally.refused
still_listed F view next found tally quiet is = subst (λ (o : Option Refused). RefusalIsListed o tally.refused) (sym (quiet_step F view next found quiet).last) is

still_counted : (F : Fixed) (view : View) (next : Next) (found : ℕ) (tally : Tally) → node_taken next ≡ None → AreCounted view.refusals tally.refused
    → AreCounted (view_found F view next found).refusals tally.refused
still_counted F view next found tally quiet is = (quiet_step F view next found quiet).count ∙ is

-- a step keeps the last refused take among those that are listed
pub refusal_listed : (F : Fixed) (view : View) (next : Next) (found left : ℕ) (tally : Tally) → RefusalIsListed view.refused tally.refused
    → RefusalIsListed (view_found F view next found).refused (tally_after next found left tally).refused
refusal_listed F view (Begin c) found left tally is = still_listed F view (Begin c) found tally refl is
refusal_listed F view LoadOwn found left tally is = still_listed F view LoadOwn found tally refl is
refusal_listed F view LoadAgain found left tally is = still_listed F view LoadAgain found tally refl is
refusal_listed F view (TakeNode node) found left tally is = elim (cases_Bool (found == 0)) [ inl free ↦ rw free is | inr held ↦ rw held (inl refl) ]
refusal_listed F view (ClaimNode e node) found left tally is = elim (cases_Bool (found == 0)) [ inl free ↦ rw free is | inr held ↦ rw held (inl refl) ]
refusal_listed F view (ReadList node plan) found left tally is = still_listed F view (ReadList node plan) found tally refl is
refusal_listed F view (ReadPlayer node part slot players plan) found left tally is = still_listed F view (ReadPlayer node part slot players plan) found tally refl is
refusal_listed F view (ReadState id ids) found left tally is = still_listed F view (ReadState id ids) found tally refl is
refusal_listed F view (CommitMove e nodes) found left tally is = still_listed F view (CommitMove e nodes) found tally refl is
refusal_listed F view (StoreWord nodes store stores) found left tally is = still_listed F view (StoreWord nodes store stores) found tally refl is
refusal_listed F view (GiveNode node) found left tally is = still_listed F view (GiveNode node) found tally refl is
refusal_listed F view (YieldNode node) found left tally is = still_listed F view (YieldNode node) found tally refl is
refusal_listed F view YieldCount found left tally is = still_listed F view YieldCount found tally refl is

one_counted : (count listed most : ℕ) → count ≡ min listed most → min (count + 1) most ≡ min (suc listed) most
one_counted count listed most is = rw is (grind arith)

-- a step counts what it lists
pub refusals_counted : (F : Fixed) (view : View) (next : Next) (found left : ℕ) (tally : Tally) → AreCounted view.refusals tally.refused
    → AreCounted (view_found F view next found).refusals (tally_after next found left tally).refused
refusals_counted F view (Begin c) found left tally is = still_counted F view (Begin c) found tally refl is
refusals_counted F view LoadOwn found left tally is = still_counted F view LoadOwn found tally refl is
refusals_counted F view LoadAgain found left tally is = still_counted F view LoadAgain found tally refl is
refusals_counted F view (TakeNode node) found left tally is = elim (cases_Bool (found == 0)) [ inl free ↦ rw free is | inr held ↦ rw held (one_counted view.refusals (length tally.refused) (2 ^ 64 - 1) is) ]
refusals_counted F view (ClaimNode e node) found left tally is = elim (cases_Bool (found == 0)) [ inl free ↦ rw free is | inr held ↦ rw held (one_counted view.refusals (length tally.refused) (2 ^ 64 - 1) is) ]
refusals_counted F view (ReadList node plan) found left tally is = still_counted F view (ReadList node plan) found tally refl is
refusals_counted F view (ReadPlayer node part slot players plan) found left tally is = still_counted F view (ReadPlayer node part slot players plan) found tally refl is
refusals_counted F view (ReadState id ids) found left tally is = still_counted F view (ReadState id ids) found tally refl is
refusals_counted F view (CommitMove e nodes) found left tally is = still_counted F view (CommitMove e nodes) found tally refl is
refusals_counted F view (StoreWord nodes store stores) found left tally is = still_counted F view (StoreWord nodes store stores) found tally refl is
refusals_counted F view (GiveNode node) found left tally is = still_counted F view (GiveNode node) found tally refl is
refusals_counted F view (YieldNode node) found left tally is = still_counted F view (YieldNode node) found tally refl is
refusals_counted F view YieldCount found left tally is = still_counted F view YieldCount found tally refl is
