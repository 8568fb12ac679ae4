-- What the machine keeps.
use Rattle.std.specs.Prelude.{◌≡◌, ℕ, ◌<◌, ◌==◌, length, true, false, if◌then◌else◌, is_some, List, [], ◌∷◌, ◌++◌}
use Rattle.std.specs.Prelude.{Option, Some, None, map, All, ◌≤◌, ◌^◌}
use Rattle.std.specs.List.{range_with_len, sum_by}
use Rattle.std.specs.List.Sorted.{IsStrictlyIncreasing, IsPermutation}
use Rattle.entity_recs.specs.Actions.{HasPlayer, IsCall}
use Rattle.core_steps.specs.Cells.{word_in, cell_of}
use Rattle.core_steps.specs.declared.sizes.TheConstants.{TABLE_WORDS}
use Rattle.core_steps.specs.Cells.{word_at}
use Rattle.entity_recs.specs.Commands.{Command}
use Rattle.entity_recs.specs.Worlds.{World}
use Rattle.entity_recs.specs.Histories.{Item, run, commands_of, places_of}
use Rattle.core_steps.specs.Nodes.{Fixed}
use Rattle.core_steps.specs.Points.{Resolving}
use Rattle.core_steps.specs.Reads.{record_read}
use Rattle.core_steps.specs.Points.{Loading, stage_of, is_busy, is_open}
use Rattle.core_steps.specs.Nodes.{nodes_of, FitsTable, taking_order}
use Rattle.core_steps.specs.Points.{is_whole}
use Rattle.core_steps.specs.Held.{holds}
use Rattle.core_steps.specs.Reads.{loaded_near, Ended, View}
use Rattle.core_steps.specs.Steps.{Core}
use Rattle.core_steps.specs.Steps.{refuse_node, is_taking, make_seat, end_seat, load_count}
use Rattle.core_steps.specs.Machine.{Next, Machine, MachineStands}
use Rattle.core_steps.specs.Calls.{StandsSomehow, SomeGoesOn, MayBeGiven, Call}
use Rattle.core_steps.specs.Machine.{items_after, machine_after, next_of}
use Rattle.core_steps.specs.Calls.{MayAllBeCalled, has_command, start_machine}
use Rattle.core_steps.specs.Machine.{index_of, IsInUse, word_of_next, core_after}
use Rattle.core_steps.specs.Calls.{with_given, with_quitting, after_calls}
use Rattle.core_steps.specs.Calls.{node_taken, pursued, kept_by}
use Rattle.core_steps.specs.Stands.{IsLawful, IsStart, Stands, items_of}

-- the machine at the start stands, with no history
abbrev pub MachineStartStands : Type 0
MachineStartStands = (F : Fixed) (room : ℕ) (rooms : List ℕ) → MachineStands F (start_machine F room rooms) [] F.start

-- a command that is given leaves what stands
abbrev pub GivenCommandStands : Type 0
GivenCommandStands =
    (F : Fixed) (m : Machine) (history : List Item) (now : World) (i : ℕ) (c : Command) → MayBeGiven F m i c
    → MachineStands F m history now
    → MachineStands F (with_given m i c) history now

-- each step that a seat makes leaves what stands, with its item at the end of the history where it commits
abbrev pub NextStepStands : Type 0
NextStepStands =
    (F : Fixed) (m : Machine) (history : List Item) (now : World) (i : ℕ) (next : Next) → IsLawful F → IsStart F
    → next_of F m i ≡ Some next
    → MachineStands F m history now
    → MachineStands F (machine_after F m i next)
    (history ++ items_after m.core i next) (run F.effect_of now (items_after m.core i next))

-- a seat that is asked to give up, at any take before its commit or where the commit comes next, leaves what stands
abbrev pub QuittingStands : Type 0
QuittingStands =
    (F : Fixed) (m : Machine) (history : List Item) (now : World) (i : ℕ) → is_taking (m.core.view i).point ≡ true
    → MachineStands F m history now
    → MachineStands F (with_quitting m i) history now

-- whatever calls are made, each under its condition, the machine stands
abbrev pub EachMachineStands : Type 0
EachMachineStands =
    (F : Fixed) (room : ℕ) (rooms : List ℕ) (calls : List Call) → IsLawful F → IsStart F
    → MayAllBeCalled F (start_machine F room rooms) calls
    → StandsSomehow F (after_calls F (start_machine F room rooms) calls)

-- a seat has a next step exactly where it has a command in hand
abbrev pub NextExists : Type 0
NextExists =
    (F : Fixed) (m : Machine) (history : List Item) (now : World) (i : ℕ) → MachineStands F m history now
    → is_some (next_of F m i) ≡ has_command m i

-- the step that commits appends the seat's command with its entry to the seat's log, and no other step changes a log
abbrev pub LogsGrowByCommits : Type 0
LogsGrowByCommits =
    (F : Fixed) (m : Machine) (i j : ℕ) (next : Next)
    → ((machine_after F m i next).core.view j).log
    ≡ (if j == i then (m.core.view i).log ++ items_after m.core i next else (m.core.view j).log)

-- where a seat has a command in hand, some seat with a command in hand doesn't wait
abbrev pub SomeSeatIsFree : Type 0
SomeSeatIsFree = (F : Fixed) (m : Machine) (history : List Item) (now : World) (i : ℕ) → MachineStands F m history now
    → has_command m i ≡ true → SomeGoesOn F m

-- a seat whose next step is a take holds only nodes that come before the node that it takes: leaves by number, then
-- inner nodes by number
abbrev pub EachTakeComesLater : Type 0
EachTakeComesLater =
    (F : Fixed) (m : Machine) (history : List Item) (now : World) (i node held : ℕ) (next : Next)
    → MachineStands F m history now → next_of F m i ≡ Some next → node_taken next ≡ Some node
    → holds F (m.core.view i).point (m.core.view i).wanted held ≡ true
    → taking_order F held < taking_order F node

-- a step changes no word of the table but its own
abbrev pub StepsChangeOneWord : Type 0
StepsChangeOneWord =
    (F : Fixed) (core : Core) (i index : ℕ) (next : Next)
    → (index == index_of (core.view i) next) ≡ false
    → word_at (core_after F core i next).words index ≡ word_at core.words index

-- a step of a seat, which may be a refused take, and its load of the count change no view but that seat's; a command
-- that is given to it, and that it is asked to give up, change no view and no word; a seat that is made changes its own
-- view and that of seat 0 alone, and so does one that is ended
pub record KeepsOtherViews (F : Fixed) (m : Machine) (i : ℕ) : Type 0 where
  pub step : (next : Next) (j : ℕ) → (j == i) ≡ false
      → (machine_after F m i next).core.view j ≡ m.core.view j
  pub count : (j : ℕ) → (j == i) ≡ false → (load_count m.core i).view j ≡ m.core.view j
  pub given : (c : Command) → (with_given m i c).core ≡ m.core
  pub quitting : (with_quitting m i).core ≡ m.core
  pub made : (room j : ℕ) → (j == (m.core.view 0).made) ≡ false → (j == 0) ≡ false
      → (make_seat m.core room).view j ≡ m.core.view j
  pub ended : (j : ℕ) → (j == i) ≡ false → (j == 0) ≡ false → (end_seat m.core i).view j ≡ m.core.view j

-- a step changes the view of its own seat alone
abbrev pub StepsChangeOneView : Type 0
StepsChangeOneView = (F : Fixed) (m : Machine) (i : ℕ) → KeepsOtherViews F m i

-- a take of a held node changes nothing but the record of the refused take in the view of its seat
abbrev pub RefusedTakesChangeTheirRecord : Type 0
RefusedTakesChangeTheirRecord =
    (F : Fixed) (m : Machine) (i node : ℕ) (next : Next) → node_taken next ≡ Some node
    → (m.core.words.node node == 0) ≡ false → core_after F m.core i next ≡ refuse_node m.core i node

-- a seat whose next step is a take may be asked to give up
abbrev pub SeatAtATakeMayGiveUp : Type 0
SeatAtATakeMayGiveUp =
    (F : Fixed) (m : Machine) (i node : ℕ) (next : Next) → next_of F m i ≡ Some next → node_taken next ≡ Some node
    → is_taking (m.core.view i).point ≡ true

-- the command in hand: the one that was given and isn't begun, or else the one in view
abbrev pub hand_of : Option Command → View → Option Command
hand_of (Some c) view = Some c
hand_of None view = if is_busy (stage_of view.point) then Some view.cmd else None

-- the command that a seat of the machine has in hand
abbrev pub in_hand : Machine → ℕ → Option Command
in_hand m i = hand_of (m.given i) (m.core.view i)

-- a command that a seat has in hand after a step it had in hand before it
abbrev pub StepsBringNoCommand : Type 0
StepsBringNoCommand =
    (F : Fixed) (m : Machine) (history : List Item) (now : World) (i : ℕ) (next : Next) → next_of F m i ≡ Some next
    → MachineStands F m history now
    → (j : ℕ) (c : Command) → in_hand (machine_after F m i next) j ≡ Some c → in_hand m j ≡ Some c

-- ---- what the action may be asked

-- the own record of a command that isn't committed, once it is loaded whole, is one for which the action may be asked
-- its region
abbrev pub RegionMayBeAsked : Type 0
RegionMayBeAsked =
    (F : Fixed) (core : Core) (history : List Item) (now : World) (i : ℕ) → IsLawful F → IsStart F
    → is_open (stage_of (core.view i).point) ≡ true → is_whole (stage_of (core.view i).point) ≡ true
    → Stands F core history now
    → HasPlayer F.takes (record_read (core.view i).cmd.slot (core.view i).own) (core.view i).cmd

-- the record of another player, once its last word is loaded, is one that the action takes
abbrev pub LoadedRecordIsTaken : Type 0
LoadedRecordIsTaken =
    (F : Fixed) (core : Core) (history : List Item) (now : World) (i node p : ℕ) (part players plan : List ℕ)
    → IsLawful F → IsStart F → (core.view i).point ≡ Loading node part (p ∷ players) plan → length part ≡ 5
    → Stands F core history now
    → F.takes (record_read p (part ++ word_in core.words (cell_of p 5) ∷ [])) ≡ true

-- once all is read the action may be asked the effect on what was loaded
abbrev pub EffectMayBeAsked : Type 0
EffectMayBeAsked =
    (F : Fixed) (core : Core) (history : List Item) (now : World) (i : ℕ) → IsLawful F → IsStart F
    → (core.view i).point ≡ Resolving → Stands F core history now
    → IsCall F.takes (record_read (core.view i).cmd.slot (core.view i).again) (loaded_near F (core.view i))
    (core.view i).cmd

-- ---- what a history says of the logs

-- the places in the history are the numbers below the count of commits in order, those in all logs are the same
-- numbers, and those in each log rise
pub record HasItsPlaces (core : Core) (history : List Item) : Type 0 where
  pub in_order : places_of history ≡ range_with_len 0 core.words.commits
  pub in_logs : IsPermutation (range_with_len 0 core.words.commits) (places_of (items_of core.view))
  pub rising : (i : ℕ) → IsStrictlyIncreasing (places_of (core.view i).log)
  pub rising_ended : All (λ (e : Ended). IsStrictlyIncreasing (places_of e.log)) (core.view 0).ended

-- each place below the count of commits is in one log, once
abbrev pub EachPlaceIsLoggedOnce : Type 0
EachPlaceIsLoggedOnce =
    (F : Fixed) (core : Core) (history : List Item) (now : World) → Stands F core history now
    → HasItsPlaces core history

-- the room of an ended seat with this number
abbrev pub ended_room : List Ended → ℕ → ℕ
ended_room [] n = 0
ended_room (e ∷ ended) n = if e.number == n then e.room else ended_room ended n

-- the room under a number: a seat's, or that of an ended seat
abbrev pub room_of : (ℕ → View) → ℕ → ℕ
room_of view n = if (view n).live then (view n).room else ended_room (view 0).ended n

-- the rooms under the numbers that were given out
abbrev pub rooms_of : (ℕ → View) → List ℕ
rooms_of view = map (room_of view) (range_with_len 0 (view 0).made)

-- the count of commits is at most the sum of the rooms of all seats, those that were ended too
abbrev pub CountIsWithinTheRooms : Type 0
CountIsWithinTheRooms =
    (F : Fixed) (core : Core) (history : List Item) (now : World) → Stands F core history now
    → core.words.commits ≤ sum_by (λ (room : ℕ). room) (rooms_of core.view)

-- whatever calls are made from the start on, the rooms under the numbers that were given out are those that were given
abbrev pub RoomsAreThoseGiven : Type 0
RoomsAreThoseGiven =
    (F : Fixed) (room : ℕ) (rooms : List ℕ) (calls : List Call)
    → rooms_of (after_calls F (start_machine F room rooms) calls).core.view ≡ room ∷ rooms

-- the word of what comes next lies in the table at the step's index, before the step and after it, and it is a word that
-- is in use
pub record HasItsWord (F : Fixed) (core : Core) (i : ℕ) (next : Next) : Type 0 where
  pub in_use : IsInUse F (core.view i) next
  pub in_table : index_of (core.view i) next < TABLE_WORDS
  pub before : word_at core.words (index_of (core.view i) next) ≡ word_of_next core.words (core.view i) next
  pub after : word_at (core_after F core i next).words (index_of (core.view i) next)
      ≡ word_of_next (core_after F core i next).words (core.view i) next

-- each step is one on a word of the table, where the table has words for the tree
abbrev pub StepsHaveTheirWord : Type 0
StepsHaveTheirWord =
    (F : Fixed) (m : Machine) (history : List Item) (now : World) (i : ℕ) (next : Next) → IsLawful F → IsStart F
    → FitsTable F → next_of F m i ≡ Some next → MachineStands F m history now → HasItsWord F m.core i next

-- a step follows its seat's view and its own word alone: among other words, of which its own is the same, it leaves the
-- same view and the same word
pub record FollowsItsWord (F : Fixed) (core other : Core) (i : ℕ) (next : Next) : Type 0 where
  pub view : (core_after F other i next).view i ≡ (core_after F core i next).view i
  pub word : word_of_next (core_after F other i next).words (core.view i) next
      ≡ word_of_next (core_after F core i next).words (core.view i) next

-- each step does
abbrev pub StepsFollowTheirWord : Type 0
StepsFollowTheirWord =
    (F : Fixed) (core other : Core) (i : ℕ) (next : Next) → other.view i ≡ core.view i
    → word_of_next other.words (core.view i) next ≡ word_of_next core.words (core.view i) next
    → FollowsItsWord F core other i next

-- ---- how much a view reads

-- how much a view has read at most
pub record ReadsLittle (F : Fixed) (view : View) : Type 0 where
  pub wanted : length view.wanted ≤ 2 ^ F.tree.depth
  pub lists : length view.lists ≤ nodes_of F
  pub others : length view.others ≤ 64
  pub states : length view.states ≤ length F.start.ids

-- a view has at most one list word for each node, one record for each slot and one state for each live id
abbrev pub EachViewReadsLittle : Type 0
EachViewReadsLittle =
    (F : Fixed) (m : Machine) (history : List Item) (now : World) (i : ℕ) → MachineStands F m history now
    → ReadsLittle F (m.core.view i)

-- whatever calls are made from the start on: the commands of a seat's log, and the one that it still pursues, are those
-- that it was given and didn't give up, each once and in its order
abbrev pub LogHoldsTheCommandsKept : Type 0
LogHoldsTheCommandsKept =
    (F : Fixed) (room : ℕ) (rooms : List ℕ) (calls : List Call) (i : ℕ) → IsLawful F → IsStart F
    → MayAllBeCalled F (start_machine F room rooms) calls
    → commands_of ((after_calls F (start_machine F room rooms) calls).core.view i).log
    ++ pursued (after_calls F (start_machine F room rooms) calls) i
    ≡ kept_by F (start_machine F room rooms) i calls []
