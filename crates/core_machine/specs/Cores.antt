-- The core in code as the machine of the definitions.
use Rattle.std.specs.Prelude.{ℕ, suc, ◌≡◌, ◌<◌, ◌≤◌, ◌^◌, Bool, false, List, [], ◌∷◌, map, length, slice_index_or}
use Rattle.std.specs.Prelude.{Option, Some, None}
use Rattle.entity_recs.specs.Commands.{Command}
use Rattle.core_steps.specs.declared.step.Step.{Step}
use Rattle.core_steps.specs.declared.sizes.TheConstants.{MOST_SEATS}
use Rattle.core_steps.specs.Nodes.{Fixed}
use Rattle.core_steps.specs.Reads.{View, new_view, spent}
use Rattle.core_steps.specs.Stands.{IsLawful, start_words}
use Rattle.core_steps.specs.Machine.{Machine, Next, next_of, next_step_of}
use Rattle.core_steps.specs.Calls.{StandsSomehow, IsWaiting, node_taken}
use Rattle.core_machine.specs.declared.words.Words.{Words}
use Rattle.core_machine.specs.declared.seat.Seat.{Seat}
use Rattle.core_machine.specs.Tables.{words_in}
use Rattle.core_machine.specs.Seats.{view_of, given_of}
use Rattle.core_seats.specs.Shown.{RulesView, IsRuled}

-- a seat of the core: its view, the command that was given and isn't begun, and whether it is to give up
pub record SeatView : Type 0 where
  pub view : View
  pub given : Option Command
  pub quits : Bool

-- the core: what doesn't change, the words in their arrays, and the seats by their numbers
pub record CoreView (A : Type 0) : Type 0 where
  pub rules : RulesView A
  pub words : Words
  pub seats : List SeatView

-- a seat of the code
abbrev pub seat_of : Seat → SeatView
seat_of s = record { view = view_of s; given = given_of s; quits = s.quits }

-- in place of a seat where there is none of this number
abbrev pub no_seat : SeatView
no_seat = record { view = spent; given = None; quits = false }

-- the machine of the definitions that a core is
abbrev pub machine_of : {A : Type 0} → Fixed → CoreView A → Machine
machine_of F c = record {
  core = record {
    words = words_in c.words (start_words F);
    view = λ i. (slice_index_or c.seats i no_seat).view;
  };
  given = λ i. (slice_index_or c.seats i no_seat).given;
  quits = λ i. (slice_index_or c.seats i no_seat).quits;
}

-- a seat without a command and with this room, from which so many seats were made
abbrev pub fresh_seat : ℕ → ℕ → SeatView
fresh_seat room made = record { view = record (new_view room) { made = made }; given = None; quits = false }

-- the seats at the start: one for each room, made from the first
abbrev pub start_seats : List ℕ → List SeatView
start_seats [] = []
start_seats (room ∷ rooms) = fresh_seat room (suc (length rooms)) ∷ map (λ more. fresh_seat more 0) rooms

-- there are at most as many seats as there may be, none was ended, and each has room for fewer than 2^32 entries
pub record HasRooms (view : ℕ → View) : Type 0 where
  pub made : (view 0).made ≤ MOST_SEATS
  pub ended : (view 0).ended ≡ []
  pub room : (i : ℕ) → (view i).room < 2 ^ 32

-- what holds of a core between any two calls: the action is lawful, the start is one of the definitions', the tree has
-- its depth, the machine stands, and its seats have their rooms
pub record IsCore {A : Type 0} (F : Fixed) (c : CoreView A) : Type 0 where
  pub lawful : IsLawful F
  pub ruled : IsRuled F
  pub stands : StandsSomehow F (machine_of F c)
  pub rooms : HasRooms (machine_of F c).core.view

-- this step is the next one of its seat, and takes no node that another seat holds
pub record IsFree (F : Fixed) (m : Machine) (s : Step) : Type 0 where
  pub next : next_step_of F m s.seat ≡ Some s
  pub free : IsWaiting F m s.seat → ⊥

-- this step is the next one of its seat, and takes this node, which another seat holds
pub record IsRefused (F : Fixed) (m : Machine) (s : Step) (node : ℕ) : Type 0 where
  pub next : Next
  pub comes : next_of F m s.seat ≡ Some next
  pub step : next_step_of F m s.seat ≡ Some s
  pub taken : node_taken next ≡ Some node
  pub waits : IsWaiting F m s.seat
