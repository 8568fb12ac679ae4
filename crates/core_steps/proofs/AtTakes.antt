-- A seat whose next step is a take may be asked to give up.
use Rattle.std.proofs.Common.{◌≡◌, ℕ, Bool, true, false, [], ◌∷◌, refl, Option, Some, None}
use Rattle.std.specs.Prelude.{if◌then◌else◌}
use Rattle.entity_recs.specs.Commands.{Command}
use Rattle.core_steps.specs.Nodes.{Fixed}
use Rattle.core_steps.specs.Points.{Point, Idle, Owning, Taking, Checking, Entering, Entered, Loading, Leaving, Sensing}
use Rattle.core_steps.specs.Points.{Resolving, Claiming, Storing, Releasing, Returning, Yielding}
use Rattle.core_steps.specs.Reads.{View}
use Rattle.core_steps.specs.Steps.{next_give, is_taking, first_yield}
use Rattle.core_steps.specs.Machine.{Next, LoadOwn, LoadAgain, ReadList, ReadPlayer, ReadState, StoreWord, GiveNode, YieldNode, YieldCount, Begin, next_at, quitting, beginning, giving}
use Rattle.core_steps.specs.Calls.{node_taken}
use Rattle.core_steps.specs.MachineLaws.{SeatAtATakeMayGiveUp}

-- a step that takes no node isn't one that takes one
takes_none : {R : Type 0} (other next : Next) (node : ℕ) → node_taken other ≡ None → Some other ≡ Some next → node_taken next ≡ Some node → R
takes_none other next node none e taken = let same : other ≡ next = cc in cc

takes_begun : {R : Type 0} (given : Option Command) (next : Next) (node : ℕ) → beginning given ≡ Some next → node_taken next ≡ Some node → R
takes_begun None next node e taken = cc
takes_begun (Some c) next node e taken = takes_none (Begin c) next node refl e taken

takes_given : {R : Type 0} (given : Option ℕ) (next : Next) (node : ℕ) → giving given ≡ Some next → node_taken next ≡ Some node → R
takes_given None next node e taken = cc
takes_given (Some n) next node e taken = takes_none (GiveNode n) next node refl e taken

takes_quitting : {R : Type 0} (yields : Option ℕ) (next : Next) (node : ℕ) → Some (quitting yields) ≡ Some next → node_taken next ≡ Some node → R
takes_quitting None next node e taken = takes_none YieldCount next node refl e taken
takes_quitting (Some n) next node e taken = takes_none (YieldNode n) next node refl e taken

at_take : (F : Fixed) (view : View) (given : Option Command) (point : Point) (next : Next) (node : ℕ) → next_at F view given point ≡ Some next → node_taken next ≡ Some node → is_taking point ≡ true
at_take F view given Idle next node e taken = takes_begun given next node e taken
at_take F view given Owning next node e taken = takes_none LoadOwn next node refl e taken
at_take F view given (Taking got rest) next node e taken = refl
at_take F view given Checking next node e taken = takes_none LoadAgain next node refl e taken
at_take F view given (Entering n plan) next node e taken = refl
at_take F view given (Entered n plan) next node e taken = takes_none (ReadList n plan) next node refl e taken
at_take F view given (Loading n part [] plan) next node e taken = cc
at_take F view given (Loading n part (slot ∷ players) plan) next node e taken = takes_none (ReadPlayer n part slot players plan) next node refl e taken
at_take F view given (Leaving n plan) next node e taken = takes_none (GiveNode n) next node refl e taken
at_take F view given (Sensing []) next node e taken = cc
at_take F view given (Sensing (id ∷ ids)) next node e taken = takes_none (ReadState id ids) next node refl e taken
at_take F view given Resolving next node e taken = refl
at_take F view given (Claiming got rest) next node e taken = refl
at_take F view given (Storing nodes []) next node e taken = cc
at_take F view given (Storing nodes (store ∷ stores)) next node e taken = takes_none (StoreWord nodes store stores) next node refl e taken
at_take F view given (Releasing nodes) next node e taken = takes_given (next_give (Releasing nodes) view.wanted) next node e taken
at_take F view given (Returning leaves) next node e taken = takes_given (next_give (Returning leaves) view.wanted) next node e taken
at_take F view given (Yielding nodes leaves) next node e taken = takes_given (next_give (Yielding nodes leaves) view.wanted) next node e taken

-- whether or not the seat is to give up
quits_or_not : (F : Fixed) (view : View) (given : Option Command) (quits : Bool) (next : Next) (node : ℕ)
    → (if quits then Some (quitting (first_yield F view)) else next_at F view given view.point) ≡ Some next → node_taken next ≡ Some node → is_taking view.point ≡ true
quits_or_not F view given true next node e taken = takes_quitting (first_yield F view) next node e taken
quits_or_not F view given false next node e taken = at_take F view given view.point next node e taken

pub seat_at_a_take_may_give_up : SeatAtATakeMayGiveUp
seat_at_a_take_may_give_up F m i node next comes taken = quits_or_not F (m.core.view i) (m.given i) (m.quits i) next node comes taken
