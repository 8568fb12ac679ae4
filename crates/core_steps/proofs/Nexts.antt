-- Each seat with a command has a next step, and not all wait.
use Rattle.std.proofs.Common.{◌≡◌, ℕ, ◌+◌, ◌<◌, true, false, List, [], ◌∷◌, length, refl, sym, ap, ◌∙◌, subst, inl, inr, Option, Some, None, arith}
use Rattle.std.specs.Prelude.{◌||◌, is_some}
use Rattle.std.proofs.lemmas.Bool.{cases_Bool, false≢true, or_cases, or_right, cond-true, cond-false}
use Rattle.entity_recs.specs.declared.effect.Effect.{Effect}
use Rattle.entity_recs.specs.Commands.{Command}
use Rattle.entity_recs.specs.Worlds.{World}
use Rattle.entity_recs.specs.Histories.{Item}
use Rattle.core_steps.specs.Nodes.{Fixed, write_nodes}
use Rattle.core_steps.specs.Points.{Point, Idle, Owning, Taking, Checking, Entering, Entered, Loading, Leaving, Sensing}
use Rattle.core_steps.specs.Points.{Resolving, Claiming, Storing, Releasing, Returning, Yielding, stage_of, is_busy}
use Rattle.core_steps.specs.Points.{is_whole}
use Rattle.core_steps.specs.Reads.{View, record_read, effect_loaded}
use Rattle.core_steps.specs.Steps.{first, first_of_two, first_yield, next_give, next_node, next_node_at, Waits}
use Rattle.core_steps.specs.Machine.{Machine, Next, Begin, LoadOwn, LoadAgain, TakeNode, ReadList, ReadPlayer, ReadState, CommitMove, StoreWord, GiveNode, YieldNode, YieldCount, next_at, next_of, quitting, resolving, beginning, committing, giving, SomeIsLeft, MachineStands}
use Rattle.core_steps.specs.Calls.{node_taken, IsWaiting}
use Rattle.core_steps.specs.MachineLaws.{NextExists, SomeSeatIsFree, EachTakeComesLater}
use Rattle.core_steps.proofs.Giving.{seat_at}
use Rattle.core_steps.proofs.GiveBacks.{taking_point}
use Rattle.core_steps.proofs.Waiting.{not_all_wait, takes_come_in_order}

-- ---- a next step exists

some_given : (o : Option ℕ) → is_some o ≡ true → is_some (giving o) ≡ true
some_given None e = absurd (false≢true e)
some_given (Some node) e = refl

some_first : (nodes leaves : List ℕ) → 0 < length nodes + length leaves → is_some (first_of_two nodes leaves) ≡ true
some_first [] [] some = absurd (omega arith)
some_first [] (leaf ∷ leaves) some = refl
some_first (node ∷ nodes) leaves some = refl

some_begun : (given : Option Command) → is_some (beginning given) ≡ (is_some given || false)
some_begun None = refl
some_begun (Some c) = refl

next_at_exists : (F : Fixed) (m : Machine) (history : List Item) (now : World) (i : ℕ) (point : Point) → MachineStands F m history now → (m.core.view i).point ≡ point
    → is_some (next_at F (m.core.view i) (m.given i) point) ≡ (is_some (m.given i) || is_busy (stage_of point))
next_at_exists F m history now i Idle is e = some_begun (m.given i)
next_at_exists F m history now i Owning is e = sym (or_right _ _ refl)
next_at_exists F m history now i (Taking got []) is e = let at = (seat_at F m.core history now i (Taking got []) is.core e).at in absurd (omega (arith, at.left))
next_at_exists F m history now i (Taking got (leaf ∷ rest)) is e = sym (or_right _ _ refl)
next_at_exists F m history now i Checking is e = sym (or_right _ _ refl)
next_at_exists F m history now i (Entering node plan) is e = sym (or_right _ _ refl)
next_at_exists F m history now i (Entered node plan) is e = sym (or_right _ _ refl)
next_at_exists F m history now i (Loading node part [] plan) is e = let at = (seat_at F m.core history now i (Loading node part [] plan) is.core e).at in absurd (omega (arith, at.load.left))
next_at_exists F m history now i (Loading node part (slot ∷ players) plan) is e = sym (or_right _ _ refl)
next_at_exists F m history now i (Leaving node plan) is e = sym (or_right _ _ refl)
next_at_exists F m history now i (Sensing []) is e = let left = subst (λ (p : Point). SomeIsLeft p (m.core.view i).wanted) e (is.next i).left in absurd (omega (arith, left))
next_at_exists F m history now i (Sensing (id ∷ ids)) is e = sym (or_right _ _ refl)
next_at_exists F m history now i Resolving is e = sym (or_right _ _ refl)
next_at_exists F m history now i (Claiming got []) is e =
    let at = (seat_at F m.core history now i (Claiming got []) is.core e).at in
    ap (λ (o : Option Effect). is_some (committing o got)) at.claim.is ∙ sym (or_right (is_some (m.given i)) true refl)
next_at_exists F m history now i (Claiming got (node ∷ rest)) is e = sym (or_right _ _ refl)
next_at_exists F m history now i (Storing nodes []) is e = let at = (seat_at F m.core history now i (Storing nodes []) is.core e).at in absurd (omega (arith, at.left))
next_at_exists F m history now i (Storing nodes (store ∷ stores)) is e = sym (or_right _ _ refl)
next_at_exists F m history now i (Releasing nodes) is e =
    let some = (is.next i).some_wanted (ap (λ (p : Point). is_whole (stage_of p)) e) in
    some_given (first_of_two nodes (m.core.view i).wanted) (some_first nodes (m.core.view i).wanted (omega (arith, some))) ∙ sym (or_right (is_some (m.given i)) true refl)
next_at_exists F m history now i (Returning leaves) is e =
    let left = subst (λ (p : Point). SomeIsLeft p (m.core.view i).wanted) e (is.next i).left in
    some_given (first leaves) (some_first [] leaves left.some) ∙ sym (or_right (is_some (m.given i)) true refl)
next_at_exists F m history now i (Yielding nodes leaves) is e =
    let left = subst (λ (p : Point). SomeIsLeft p (m.core.view i).wanted) e (is.next i).left in
    some_given (first_of_two nodes leaves) (some_first nodes leaves left.some) ∙ sym (or_right (is_some (m.given i)) true refl)

pub next_exists : NextExists
next_exists F m history now i is =
    let view = m.core.view i in
    elim (cases_Bool (m.quits i)) [
      | inl quits ↦ ap is_some (cond-true (m.quits i) (Some (quitting (first_yield F view))) (next_at F view (m.given i) view.point) quits)
          ∙ sym (or_right (is_some (m.given i)) (is_busy (stage_of view.point)) (taking_point view.point (is.quits i quits)).busy)
      | inr goes ↦ ap is_some (cond-false (m.quits i) (Some (quitting (first_yield F view))) (next_at F view (m.given i) view.point) goes) ∙ next_at_exists F m history now i view.point is refl
    ]

-- ---- not all wait

no_node : {R : Type 0} (node : ℕ) → None ≡ Some node → R
no_node node e = cc

pub same_taken : (a next : Next) (node : ℕ) → Some a ≡ Some next → node_taken next ≡ Some node → node_taken a ≡ Some node
same_taken a next node e taken = let same : a ≡ next = cc in ap node_taken same ∙ taken

taken_begun : (given : Option Command) (next : Next) (node : ℕ) → beginning given ≡ Some next → node_taken next ≡ Some node → None ≡ Some node
taken_begun None next node e taken = cc
taken_begun (Some c) next node e taken = same_taken (Begin c) next node e taken

taken_committed : (effect : Option Effect) (nodes : List ℕ) (next : Next) (node : ℕ) → committing effect nodes ≡ Some next → node_taken next ≡ Some node → None ≡ Some node
taken_committed None nodes next node e taken = cc
taken_committed (Some effect) nodes next node e taken = same_taken (CommitMove effect nodes) next node e taken

taken_given : (given : Option ℕ) (next : Next) (node : ℕ) → giving given ≡ Some next → node_taken next ≡ Some node → None ≡ Some node
taken_given None next node e taken = cc
taken_given (Some given) next node e taken = same_taken (GiveNode given) next node e taken

pub taken_resolved : (effect : Effect) (nodes : List ℕ) (node : ℕ) → node_taken (resolving effect nodes) ≡ Some node → first nodes ≡ Some node
taken_resolved effect [] node taken = taken
taken_resolved effect (n ∷ nodes) node taken = taken

-- the node of a take that comes next is the seat's next node
pub taken_is_next : (F : Fixed) (view : View) (given : Option Command) (point : Point) (next : Next) (node : ℕ) → next_at F view given point ≡ Some next → node_taken next ≡ Some node
    → next_node_at F view point ≡ Some node
taken_is_next F view given Idle next node e taken = taken_begun given next node e taken
taken_is_next F view given Owning next node e taken = same_taken LoadOwn next node e taken
taken_is_next F view given (Taking got []) next node e taken = cc
taken_is_next F view given (Taking got (leaf ∷ rest)) next node e taken = same_taken (TakeNode leaf) next node e taken
taken_is_next F view given Checking next node e taken = same_taken LoadAgain next node e taken
taken_is_next F view given (Entering n plan) next node e taken = same_taken (TakeNode n) next node e taken
taken_is_next F view given (Entered n plan) next node e taken = same_taken (ReadList n plan) next node e taken
taken_is_next F view given (Loading n part [] plan) next node e taken = cc
taken_is_next F view given (Loading n part (slot ∷ players) plan) next node e taken = same_taken (ReadPlayer n part slot players plan) next node e taken
taken_is_next F view given (Leaving n plan) next node e taken = same_taken (GiveNode n) next node e taken
taken_is_next F view given (Sensing []) next node e taken = cc
taken_is_next F view given (Sensing (id ∷ ids)) next node e taken = same_taken (ReadState id ids) next node e taken
taken_is_next F view given Resolving next node e taken =
    let effect = effect_loaded F view in
    let writes = write_nodes F (record_read view.cmd.slot view.again) effect in
    taken_resolved effect writes node (same_taken (resolving effect writes) next node e taken)
taken_is_next F view given (Claiming got []) next node e taken = taken_committed view.effect got next node e taken
taken_is_next F view given (Claiming got (n ∷ rest)) next node e taken = same_taken (TakeNode n) next node e taken
taken_is_next F view given (Storing nodes []) next node e taken = cc
taken_is_next F view given (Storing nodes (store ∷ stores)) next node e taken = same_taken (StoreWord nodes store stores) next node e taken
taken_is_next F view given (Releasing nodes) next node e taken = taken_given (next_give (Releasing nodes) view.wanted) next node e taken
taken_is_next F view given (Returning leaves) next node e taken = taken_given (next_give (Returning leaves) view.wanted) next node e taken
taken_is_next F view given (Yielding nodes leaves) next node e taken = taken_given (next_give (Yielding nodes leaves) view.wanted) next node e taken

taken_quitting : (yields : Option ℕ) (next : Next) (node : ℕ) → Some (quitting yields) ≡ Some next → node_taken next ≡ Some node → None ≡ Some node
taken_quitting None next node e taken = same_taken YieldCount next node e taken
taken_quitting (Some n) next node e taken = same_taken (YieldNode n) next node e taken

-- the node of a seat's take is its next node
next_is_taken : (F : Fixed) (m : Machine) (i : ℕ) (next : Next) (node : ℕ) → next_of F m i ≡ Some next → node_taken next ≡ Some node → next_node F (m.core.view i) ≡ Some node
next_is_taken F m i next node comes taken =
    let view = m.core.view i in
    elim (cases_Bool (m.quits i)) [
      | inl quits ↦ no_node node (taken_quitting (first_yield F view) next node
          (sym (cond-true (m.quits i) (Some (quitting (first_yield F view))) (next_at F view (m.given i) view.point) quits) ∙ comes) taken)
      | inr goes ↦ taken_is_next F view (m.given i) view.point next node
          (sym (cond-false (m.quits i) (Some (quitting (first_yield F view))) (next_at F view (m.given i) view.point) goes) ∙ comes) taken
    ]

pub each_take_comes_later : EachTakeComesLater
each_take_comes_later F m history now i node held next is comes taken has_it =
    takes_come_in_order F m.core history now i node held is.core (next_is_taken F m i next node comes taken) has_it

-- a seat that waits in the machine waits in the core
waits_in_core : (F : Fixed) (m : Machine) (i : ℕ) → IsWaiting F m i → Waits F m.core i
waits_in_core F m i waits =
    record { node = waits.node; next = next_is_taken F m i waits.next waits.node waits.comes waits.taken; holder = waits.holder; other = waits.other; held = waits.held }

-- a seat whose command isn't begun doesn't wait
pending_goes_on : (F : Fixed) (m : Machine) (history : List Item) (now : World) (i : ℕ) (given : Option Command) → MachineStands F m history now → m.given i ≡ given
    → is_some given ≡ true → IsWaiting F m i → ⊥
pending_goes_on F m history now i None is e some waits = false≢true some
pending_goes_on F m history now i (Some c) is e some waits =
    let core = waits_in_core F m i waits in
    no_node core.node (sym (ap (next_node_at F (m.core.view i)) (is.pending i c e).idle) ∙ core.next)

pub some_seat_is_free : SomeSeatIsFree
some_seat_is_free F m history now i is has =
    elim (or_cases (is_some (m.given i)) (is_busy (stage_of (m.core.view i).point)) has) [
      | inl given ↦ record { seat = i; busy = has; goes_on = pending_goes_on F m history now i (m.given i) is refl given }
      | inr busy ↦
          let free = not_all_wait F m.core history now i is.core busy in
          record { seat = free.seat; busy = or_right (is_some (m.given free.seat)) _ free.busy; goes_on = λ waits. free.goes_on (waits_in_core F m free.seat waits) }
    ]
