-- A take is done where no other seat holds the node.
use mathlib.Core.Path.{fun_ext}
use Rattle.std.proofs.Common.{◌≡◌, ℕ, suc, ◌<◌, Bool, true, false, List, refl, sym, ap, ◌∙◌, subst, inl, inr, Option, Some, None, arith}
use Rattle.std.specs.Prelude.{◌==◌}
use Rattle.std.proofs.lemmas.Bool.{cases_Bool, true≢false, cond-true, cond-false, eqb-true}
use Rattle.std.proofs.lemmas.Option.{same_Some}
use Rattle.entity_recs.specs.Commands.{Command}
use Rattle.entity_recs.specs.Worlds.{World}
use Rattle.entity_recs.specs.Histories.{Item}
use Rattle.core_steps.specs.declared.step.StepKind.{StepKind}
use Rattle.core_steps.specs.declared.step.StepKind.TheVariants.{Take}
use Rattle.core_steps.specs.Cells.{Words, put}
use Rattle.core_steps.specs.Nodes.{Fixed}
use Rattle.core_steps.specs.Points.{Store, Clear, Put, Link, Idle}
use Rattle.core_steps.specs.Reads.{View}
use Rattle.core_steps.specs.Held.{holds}
use Rattle.core_steps.specs.Steps.{Core, first_yield, refuse_node, is_taking, view_after_refusal}
use Rattle.core_steps.specs.Machine.{Machine, Next, Begin, LoadOwn, LoadAgain, TakeNode, ClaimNode, ReadList, ReadPlayer, ReadState, CommitMove, StoreWord, GiveNode, YieldNode, YieldCount, next_at, next_of, quitting, beginning, kind_of, kind_of_store, word_of_next, core_after, machine_after, MachineStands}
use Rattle.core_steps.specs.Calls.{node_taken, IsWaiting}
use Rattle.core_steps.proofs.Puts.{put_same}
use Rattle.core_steps.proofs.AtTakes.{seat_at_a_take_may_give_up}
use Rattle.core_steps.proofs.OneWord.{refused_takes_change_their_record}
use Rattle.core_steps.proofs.Waiting.{holder_below, holder_is_below, comes_next, cases_Option}
use Rattle.core_steps.proofs.Nexts.{same_taken, taken_is_next}
use Rattle.core_machine.specs.Stepping.{is_done}
use Rattle.core_machine.proofs.StepsMade.{one_comes}

-- ---- what a take takes

-- a step that takes this node, whose word is this
record IsTake (words : Words) (view : View) (next : Next) (node : ℕ) : Type 0 where
  kind : kind_of next ≡ Take
  word : word_of_next words view next ≡ words.node node

take_is : (words : Words) (view : View) (next : Next) (node : ℕ) → node_taken next ≡ Some node → IsTake words view next node
take_is words view (Begin c) node e = cc
take_is words view LoadOwn node e = cc
take_is words view LoadAgain node e = cc
take_is words view (TakeNode n) node e = record { kind = refl; word = ap words.node (same_Some n node e) }
take_is words view (ClaimNode effect n) node e = record { kind = refl; word = ap words.node (same_Some n node e) }
take_is words view (ReadList n plan) node e = cc
take_is words view (ReadPlayer n part slot players plan) node e = cc
take_is words view (ReadState id ids) node e = cc
take_is words view (CommitMove effect nodes) node e = cc
take_is words view (StoreWord nodes store stores) node e = cc
take_is words view (GiveNode n) node e = cc
take_is words view (YieldNode n) node e = cc
take_is words view YieldCount node e = cc

store_done : (store : Store) (found : ℕ) → is_done (kind_of_store store) found ≡ true
store_done (Clear node) found = refl
store_done (Put cell x) found = refl
store_done (Link node) found = refl

-- a step that takes no node is done
other_done : (next : Next) (found : ℕ) → node_taken next ≡ None → is_done (kind_of next) found ≡ true
other_done (Begin c) found e = refl
other_done LoadOwn found e = refl
other_done LoadAgain found e = refl
other_done (TakeNode n) found e = cc
other_done (ClaimNode effect n) found e = cc
other_done (ReadList n plan) found e = refl
other_done (ReadPlayer n part slot players plan) found e = refl
other_done (ReadState id ids) found e = refl
other_done (CommitMove effect nodes) found e = refl
other_done (StoreWord nodes store stores) found e = store_done store found
other_done (GiveNode n) found e = refl
other_done (YieldNode n) found e = refl
other_done YieldCount found e = refl

-- ---- a take that comes next is of the node that the seat takes next

none_is_some : {R : Type 0} (node : ℕ) → None ≡ Some node → R
none_is_some node e = cc

taken_begun : {R : Type 0} (given : Option Command) (next : Next) (node : ℕ) → beginning given ≡ Some next → node_taken next ≡ Some node → R
taken_begun None next node e taken = cc
taken_begun (Some c) next node e taken = none_is_some node (same_taken (Begin c) next node e taken)

taken_quitting : {R : Type 0} (yields : Option ℕ) (next : Next) (node : ℕ) → Some (quitting yields) ≡ Some next → node_taken next ≡ Some node → R
taken_quitting None next node e taken = none_is_some node (same_taken YieldCount next node e taken)
taken_quitting (Some n) next node e taken = none_is_some node (same_taken (YieldNode n) next node e taken)

put_self : {A : Type 0} (i : ℕ) (a : A) (f : ℕ → A) → f i ≡ a → put i a f ≡ f
put_self i a f is = fun_ext (λ j. elim (cases_Bool (j == i)) [
  | inl same ↦ cond-true (j == i) a (f j) same ∙ sym is ∙ ap f (sym (eqb-true j i same))
  | inr other ↦ cond-false (j == i) a (f j) other
])

same_parts : (a b : Core) (g h : ℕ → Option Command) (q r : ℕ → Bool) → a ≡ b → g ≡ h → q ≡ r
    → let old : Machine = record { core = a; given = g; quits = q } in let new : Machine = record { core = b; given = h; quits = r } in old ≡ new
same_parts a b g h q r ab gh qr = rw (ab, gh, qr) refl

-- ---- a seat of a machine that stands, and what comes next

module _ (F : Fixed) (m : Machine) (history : List Item) (now : World) (n : ℕ) (next : Next) (is : MachineStands F m history now) (comes : next_of F m n ≡ Some next) where
  abbrev view : View
  view = m.core.view n

  -- the seat isn't to give up, where it takes a node
  goes_on : (node : ℕ) → node_taken next ≡ Some node → m.quits n ≡ false
  goes_on node taken = elim (cases_Bool (m.quits n)) [
    | inl quits ↦ taken_quitting (first_yield F view) next node (sym (cond-true (m.quits n) (Some (quitting (first_yield F view))) (next_at F view (m.given n) view.point) quits) ∙ comes) taken
    | inr goes ↦ goes
  ]

  comes_at : (node : ℕ) → node_taken next ≡ Some node → next_at F view (m.given n) view.point ≡ Some next
  comes_at node taken = sym (cond-false (m.quits n) (Some (quitting (first_yield F view))) (next_at F view (m.given n) view.point) (goes_on node taken)) ∙ comes

  -- no command is left to be begun, where it takes a node
  none_given : (node : ℕ) → node_taken next ≡ Some node → (given : Option Command) → m.given n ≡ given → given ≡ None
  none_given node taken None e = refl
  none_given node taken (Some c) e =
      let idle = (is.pending n c e).idle in
      taken_begun (Some c) next node
      (sym (ap (λ (o : Option Command). next_at F view o Idle) e) ∙ sym (ap (next_at F view (m.given n)) idle) ∙ comes_at node taken) taken

  -- a node that another seat holds isn't free
  held_word_there : (waits : IsWaiting F m n) → m.core.words.node waits.node ≡ 0 → ⊥
  held_word_there waits free = not_zero _ _ ((is.core.seats waits.holder).named waits.node waits.held) free
    where
      not_zero : (word x : ℕ) → word ≡ suc x → word ≡ 0 → ⊥
      not_zero word x a b = omega (arith, a, b)

  zero_test : (a : ℕ) → (a ≡ 0 → ⊥) → (a == 0) ≡ false
  zero_test a some = elim (cases_Bool (a == 0)) [ inl e ↦ absurd (some (eqb-true a 0 e)) | inr e ↦ e ]

  waits_taken : (waits : IsWaiting F m n) → node_taken next ≡ Some waits.node
  waits_taken waits = ap node_taken (one_comes (next_of F m n) next waits.next comes waits.comes) ∙ waits.taken

  -- a step that waits isn't done
  pub waiting_fails : IsWaiting F m n → is_done (kind_of next) (word_of_next m.core.words view next) ≡ false
  waiting_fails waits =
      let take = take_is m.core.words view next waits.node (waits_taken waits) in
      ap (λ (k : StepKind). is_done k (word_of_next m.core.words view next)) take.kind
      ∙ ap (λ (w : ℕ). w == 0) take.word ∙ zero_test (m.core.words.node waits.node) (held_word_there waits)

  held_by_none : (node : ℕ) → ((j : ℕ) → j < (m.core.view 0).made → holds F (m.core.view j).point (m.core.view j).wanted node ≡ false)
      → (j : ℕ) → holds F (m.core.view j).point (m.core.view j).wanted node ≡ false
  held_by_none node none j = elim (cases_Bool (holds F (m.core.view j).point (m.core.view j).wanted node)) [
    | inl held ↦ absurd (true≢false (sym held ∙ none j (holder_is_below F m.core history now j node is.core held)))
    | inr free ↦ free
  ]

  not_itself : (node j : ℕ) → node_taken next ≡ Some node → holds F (m.core.view j).point (m.core.view j).wanted node ≡ true → (j == n) ≡ true → ⊥
  not_itself node j taken held same =
      let mine = subst (λ (k : ℕ). holds F (m.core.view k).point (m.core.view k).wanted node ≡ true) (eqb-true j n same) held in
      let later = (comes_next F m.core history now n node view.point is.core refl (taken_is_next F view (m.given n) view.point next node (comes_at node taken) taken)).before node mine in
      omega (arith, later)

  done_at : (node : ℕ) → node_taken next ≡ Some node → m.core.words.node node ≡ 0 → is_done (kind_of next) (word_of_next m.core.words view next) ≡ true
  done_at node taken free =
      let take = take_is m.core.words view next node taken in
      ap (λ (k : StepKind). is_done k (word_of_next m.core.words view next)) take.kind ∙ ap (λ (w : ℕ). w == 0) (take.word ∙ free)

  -- a step that doesn't wait is done
  pub free_is_done : (IsWaiting F m n → ⊥) → is_done (kind_of next) (word_of_next m.core.words view next) ≡ true
  free_is_done free = elim (cases_Option (node_taken next)) [
    | inl none ↦ other_done next _ none
    | inr some ↦ elim (holder_below F m.core some.node (m.core.view 0).made) [
      | inl found ↦ elim (cases_Bool (found.holder == n)) [
        | inl same ↦ absurd (not_itself some.node found.holder some.is found.held same)
        | inr other ↦ absurd (free (record { next = next; comes = comes; node = some.node; taken = some.is; holder = found.holder; other = other; held = found.held }))
      ]
      | inr none ↦ done_at some.node some.is (is.core.free some.node (held_by_none some.node none))
    ]
  ]

  -- a step that waits changes the record of the refused take alone
  pub waiting_refused : (node : ℕ) → node_taken next ≡ Some node → IsWaiting F m n → machine_after F m n next ≡ record m { core = refuse_node m.core n node }
  waiting_refused node taken waits =
      let same = same_Some waits.node node (sym (waits_taken waits) ∙ taken) in
      let held = zero_test (m.core.words.node waits.node) (held_word_there waits) in
      same_parts _ _ _ _ _ _ (refused_takes_change_their_record F m n node next taken (subst (λ (v : ℕ). (m.core.words.node v == 0) ≡ false) same held))
      (put_self n None m.given (none_given node taken (m.given n) refl))
      (put_self n false m.quits (goes_on node taken))

  refused_at : (node : ℕ) → node_taken next ≡ Some node → is_done (kind_of next) (word_of_next m.core.words view next) ≡ false → (m.core.words.node node == 0) ≡ false
  refused_at node taken refused =
      let take = take_is m.core.words view next node taken in
      ap (λ (w : ℕ). w == 0) (sym take.word) ∙ sym (ap (λ (k : StepKind). is_done k (word_of_next m.core.words view next)) take.kind) ∙ refused

  -- a step that isn't done leaves its seat where it may give up
  pub may_give_up : is_done (kind_of next) (word_of_next m.core.words view next) ≡ false → is_taking ((core_after F m.core n next).view n).point ≡ true
  may_give_up refused = elim (cases_Option (node_taken next)) [
    | inl none ↦ absurd (true≢false (sym (other_done next (word_of_next m.core.words view next) none) ∙ refused))
    | inr some ↦
        ap (λ (core : Core). is_taking (core.view n).point) (refused_takes_change_their_record F m n some.node next some.is (refused_at some.node some.is refused))
        ∙ ap (λ (v : View). is_taking v.point) (put_same n (view_after_refusal some.node (m.core.words.node some.node) view) m.core.view)
        ∙ seat_at_a_take_may_give_up F m n some.node next comes some.is
  ]
