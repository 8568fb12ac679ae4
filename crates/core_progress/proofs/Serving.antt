-- Which next steps are served: all but takes of nodes that another seat holds.
use Rattle.std.proofs.Common.{◌≡◌, ℕ, suc, ◌<◌, ◌⊎◌, true, false, List, refl, sym, ap, ◌∙◌, subst, inl, inr, Option, Some, None, arith}
use Rattle.std.specs.Prelude.{◌==◌, is_some}
use Rattle.std.proofs.lemmas.Bool.{cases_Bool, true≢false, false≢true, eqb-true}
use Rattle.std.proofs.lemmas.Option.{same_Some}
use Rattle.entity_recs.specs.Worlds.{World}
use Rattle.entity_recs.specs.Histories.{Item}
use Rattle.core_steps.specs.Cells.{Words}
use Rattle.core_steps.specs.Nodes.{Fixed}
use Rattle.core_steps.specs.Reads.{View}
use Rattle.core_steps.specs.Held.{holds}
use Rattle.core_steps.specs.Machine.{Machine, Next, Begin, LoadOwn, LoadAgain, TakeNode, ClaimNode, ReadList, ReadPlayer, ReadState, CommitMove, StoreWord, GiveNode, YieldNode, YieldCount, next_of, word_of_next, MachineStands}
use Rattle.core_steps.specs.Calls.{has_command, node_taken, IsWaiting}
use Rattle.core_steps.proofs.Nexts.{next_exists, some_seat_is_free, each_take_comes_later}
use Rattle.core_steps.proofs.Waiting.{holder_below, holder_is_below, cases_Option}
use Rattle.core_progress.specs.StepsLeft.{is_served}
use Rattle.core_progress.specs.Progress.{serves_next, can_step}
use Rattle.core_progress.specs.Laws.{SeatsStepOrWait, SomeSeatCanStep}

-- a step that takes no node is served
other_served : (next : Next) (found : ℕ) → node_taken next ≡ None → is_served next found ≡ true
other_served (Begin c) found e = refl
other_served LoadOwn found e = refl
other_served LoadAgain found e = refl
other_served (TakeNode n) found e = cc
other_served (ClaimNode effect n) found e = cc
other_served (ReadList n plan) found e = refl
other_served (ReadPlayer n part slot players plan) found e = refl
other_served (ReadState id ids) found e = refl
other_served (CommitMove effect nodes) found e = refl
other_served (StoreWord nodes store stores) found e = refl
other_served (GiveNode n) found e = refl
other_served (YieldNode n) found e = refl
other_served YieldCount found e = refl

-- a take is served where the word of its node is 0
take_served : (words : Words) (view : View) (next : Next) (node : ℕ) → node_taken next ≡ Some node → is_served next (word_of_next words view next) ≡ (words.node node == 0)
take_served words view (Begin c) node e = cc
take_served words view LoadOwn node e = cc
take_served words view LoadAgain node e = cc
take_served words view (TakeNode n) node e = ap (λ (v : ℕ). words.node v == 0) (same_Some n node e)
take_served words view (ClaimNode effect n) node e = ap (λ (v : ℕ). words.node v == 0) (same_Some n node e)
take_served words view (ReadList n plan) node e = cc
take_served words view (ReadPlayer n part slot players plan) node e = cc
take_served words view (ReadState id ids) node e = cc
take_served words view (CommitMove effect nodes) node e = cc
take_served words view (StoreWord nodes store stores) node e = cc
take_served words view (GiveNode n) node e = cc
take_served words view (YieldNode n) node e = cc
take_served words view YieldCount node e = cc

-- what comes next, where something does
pub record IsSomeNext (o : Option Next) : Type 0 where
  pub next : Next
  pub is : o ≡ Some next

pub some_next : (o : Option Next) → is_some o ≡ true → IsSomeNext o
some_next None e = absurd (false≢true e)
some_next (Some next) e = record { next = next; is = refl }

-- a seat that can step has a next step, and that is served
pub record IsServedNext (words : Words) (view : View) (o : Option Next) : Type 0 where
  pub next : Next
  pub is : o ≡ Some next
  pub served : is_served next (word_of_next words view next) ≡ true

pub served_next : (words : Words) (view : View) (o : Option Next) → serves_next words view o ≡ true → IsServedNext words view o
served_next words view None e = absurd (false≢true e)
served_next words view (Some next) e = record { next = next; is = refl; served = e }

zero_is : (a : ℕ) → a ≡ 0 → (a == 0) ≡ true
zero_is a e = rw e refl

not_zero : (a x : ℕ) → a ≡ suc x → (a == 0) ≡ false
not_zero a x e = elim (cases_Bool (a == 0)) [ inl zero' ↦ let is = eqb-true a 0 zero' in absurd (omega (arith, is, e)) | inr some ↦ some ]

module _ (F : Fixed) (m : Machine) (history : List Item) (now : World) (i : ℕ) (is : MachineStands F m history now) where
  abbrev words : Words
  words = m.core.words

  abbrev view : View
  view = m.core.view i

  steps_at : (next : Next) → next_of F m i ≡ Some next → can_step F m i ≡ is_served next (word_of_next words view next)
  steps_at next comes = ap (serves_next words view) comes

  -- a take that comes next is served where no seat holds the node
  free_steps : (next : Next) (node : ℕ) → next_of F m i ≡ Some next → node_taken next ≡ Some node
      → ((j : ℕ) → j < (m.core.view 0).made → holds F (m.core.view j).point (m.core.view j).wanted node ≡ false) → can_step F m i ≡ true
  free_steps next node comes taken none =
      let by_none : (j : ℕ) → holds F (m.core.view j).point (m.core.view j).wanted node ≡ false = λ j.
      elim (cases_Bool (holds F (m.core.view j).point (m.core.view j).wanted node)) [
        | inl held ↦ absurd (true≢false (sym held ∙ none j (holder_is_below F m.core history now j node is.core held)))
        | inr free ↦ free
      ] in
      steps_at next comes ∙ take_served words view next node taken ∙ zero_is (words.node node) (is.core.free node by_none)

  not_itself : (next : Next) (node j : ℕ) → next_of F m i ≡ Some next → node_taken next ≡ Some node → holds F (m.core.view j).point (m.core.view j).wanted node ≡ true → (j == i) ≡ true → ⊥
  not_itself next node j comes taken held same =
      let mine = subst (λ (k : ℕ). holds F (m.core.view k).point (m.core.view k).wanted node ≡ true) (eqb-true j i same) held in
      let later = each_take_comes_later F m history now i node node next is comes taken mine in
      omega (arith, later)

  take_waits : (next : Next) (node : ℕ) → next_of F m i ≡ Some next → node_taken next ≡ Some node → (can_step F m i ≡ true) ⊎ IsWaiting F m i
  take_waits next node comes taken = elim (holder_below F m.core node (m.core.view 0).made) [
    | inl found ↦ elim (cases_Bool (found.holder == i)) [
      | inl same ↦ absurd (not_itself next node found.holder comes taken found.held same)
      | inr other ↦ inr (record { next = next; comes = comes; node = node; taken = taken; holder = found.holder; other = other; held = found.held })
    ]
    | inr none ↦ inl (free_steps next node comes taken none)
  ]

  pub either : has_command m i ≡ true → (can_step F m i ≡ true) ⊎ IsWaiting F m i
  either has =
      let some = some_next (next_of F m i) (next_exists F m history now i is ∙ has) in
      elim (cases_Option (node_taken some.next)) [
        | inl none ↦ inl (steps_at some.next some.is ∙ other_served some.next (word_of_next words view some.next) none)
        | inr node ↦ take_waits some.next node.node some.is node.is
      ]

  pub waiting_cant : IsWaiting F m i → can_step F m i ≡ false
  waiting_cant waits =
      steps_at waits.next waits.comes ∙ take_served words view waits.next waits.node waits.taken
      ∙ not_zero (words.node waits.node) _ ((is.core.seats waits.holder).named waits.node waits.held)

pub seats_step_or_wait : SeatsStepOrWait
seats_step_or_wait F m history now i is has = record { either = either F m history now i is has; not_both = waiting_cant F m history now i is }

pub some_seat_can_step : SomeSeatCanStep
some_seat_can_step F m history now i is has =
    let free = some_seat_is_free F m history now i is has in
    record {
      seat = free.seat;
      busy = free.busy;
      steps = elim (either F m history now free.seat is free.busy) [ inl steps ↦ steps | inr waits ↦ absurd (free.goes_on waits) ];
    }
