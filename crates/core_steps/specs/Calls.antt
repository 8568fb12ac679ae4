-- Calls of the machine from its start on, who waits, and which commands a log holds.
use Rattle.std.specs.Prelude.{ℕ, ◌≡◌, ◌==◌, ◌||◌, Bool, true, false, if◌then◌else◌, List, []}
use Rattle.std.specs.Prelude.{◌∷◌}
use Rattle.std.specs.Prelude.{Option, Some, None, is_some, not, ◌&&◌, ◌++◌}
use Rattle.entity_recs.specs.Commands.{Command}
use Rattle.entity_recs.specs.Worlds.{World}
use Rattle.entity_recs.specs.Histories.{Item}
use Rattle.core_steps.specs.Cells.{put}
use Rattle.core_steps.specs.Points.{Stage, AtRest, AtOwning, AtTaking, AtChecking, AtReading}
use Rattle.core_steps.specs.Points.{AtClaiming, AtStoring, AtReleasing, AtReturning, AtYielding}
use Rattle.core_steps.specs.Nodes.{Fixed}
use Rattle.core_steps.specs.Points.{stage_of}
use Rattle.core_steps.specs.Points.{is_busy}
use Rattle.core_steps.specs.Reads.{View}
use Rattle.core_steps.specs.Held.{holds}
use Rattle.core_steps.specs.Steps.{Core, is_taking}
use Rattle.core_steps.specs.Steps.{make_seat}
use Rattle.core_steps.specs.Stands.{start_core}
use Rattle.core_steps.specs.Machine.{Machine, Next, TakeNode, ClaimNode}
use Rattle.core_steps.specs.Machine.{next_of, machine_after, IsPending, MachineStands}

-- the core after seats with these rooms are made from seat 0
abbrev pub with_seats : Core → List ℕ → Core
with_seats core [] = core
with_seats core (room ∷ rooms) = with_seats (make_seat core room) rooms

-- the machine at the start: a seat for each room, and nothing given
abbrev pub start_machine : Fixed → ℕ → List ℕ → Machine
start_machine F room rooms = record
    { core = with_seats (start_core F room) rooms; given = λ i. None; quits = λ i. false }

-- a call: a command is given to a seat, a seat makes its next step, or a seat is to give up
pub data Call : Type 0 where
  Give : ℕ → Command → Call
  Go : ℕ → Call
  GiveUp : ℕ → Call

-- the machine after a command is given to a seat
abbrev pub with_given : Machine → ℕ → Command → Machine
with_given m i c = record m { given = put i (Some c) m.given }

-- the machine after a seat is asked to give up
abbrev pub with_quitting : Machine → ℕ → Machine
with_quitting m i = record m { quits = put i true m.quits }

-- the machine after a seat's next step, if it has one
abbrev pub gone_on : Fixed → Machine → ℕ → Option Next → Machine
gone_on F m i None = m
gone_on F m i (Some next) = machine_after F m i next

-- the machine after a call
abbrev pub after_call : Fixed → Machine → Call → Machine
after_call F m (Give i c) = with_given m i c
after_call F m (Go i) = gone_on F m i (next_of F m i)
after_call F m (GiveUp i) = with_quitting m i

-- a command may be given to the seat: it has none, and no other seat has one of that slot
pub record MayBeGiven (F : Fixed) (m : Machine) (i : ℕ) (c : Command) : Type 0 where
  pub pending : IsPending F (m.core.view i) c
  pub none : m.given i ≡ None
  pub given_apart : (j : ℕ) (d : Command) → (j == i) ≡ false → m.given j ≡ Some d → (c.slot == d.slot) ≡ false
  pub busy_apart : (j : ℕ) → (j == i) ≡ false → is_busy (stage_of (m.core.view j).point) ≡ true
      → (c.slot == (m.core.view j).cmd.slot) ≡ false

-- the condition of a call; a seat may be asked to give up at any take before its commit, and where the commit comes
-- next
abbrev pub MayBeCalled : Fixed → Machine → Call → Type 0
MayBeCalled F m (Give i c) = MayBeGiven F m i c
MayBeCalled F m (Go i) = Unit {0}
MayBeCalled F m (GiveUp i) = is_taking (m.core.view i).point ≡ true

-- the machine after calls, one after another
abbrev pub after_calls : Fixed → Machine → List Call → Machine
after_calls F m [] = m
after_calls F m (call ∷ calls) = after_calls F (after_call F m call) calls

-- each of the calls meets its condition in the machine in which it is made
abbrev pub MayAllBeCalled : Fixed → Machine → List Call → Type 0
MayAllBeCalled F m [] = Unit {0}
MayAllBeCalled F m (call ∷ calls) = MayBeCalled F m call × MayAllBeCalled F (after_call F m call) calls

-- the machine stands, with some history of all commits
pub record StandsSomehow (F : Fixed) (m : Machine) : Type 0 where
  pub history : List Item
  pub now : World
  pub stands : MachineStands F m history now

-- ---- who waits

-- the node of a take
abbrev pub node_taken : Next → Option ℕ
node_taken (TakeNode node) = Some node
node_taken (ClaimNode e node) = Some node
node_taken _ = None

-- the seat waits: it takes a node next that another seat holds
pub record IsWaiting (F : Fixed) (m : Machine) (i : ℕ) : Type 0 where
  pub next : Next
  pub comes : next_of F m i ≡ Some next
  pub node : ℕ
  pub taken : node_taken next ≡ Some node
  pub holder : ℕ
  pub other : (holder == i) ≡ false
  pub held : holds F (m.core.view holder).point (m.core.view holder).wanted node ≡ true

-- the seat has a command in hand
abbrev pub has_command : Machine → ℕ → Bool
has_command m i = is_some (m.given i) || is_busy (stage_of (m.core.view i).point)

-- some seat with a command in hand doesn't wait
pub record SomeGoesOn (F : Fixed) (m : Machine) : Type 0 where
  pub seat : ℕ
  pub busy : has_command m seat ≡ true
  pub goes_on : IsWaiting F m seat → ⊥

-- ---- which commands a log holds

-- a command is in view that isn't committed and isn't being given up
abbrev pub is_pursued : Stage → Bool
is_pursued AtRest = false
is_pursued AtOwning = true
is_pursued AtTaking = true
is_pursued AtChecking = true
is_pursued AtReading = true
is_pursued AtClaiming = true
is_pursued AtStoring = false
is_pursued AtReleasing = false
is_pursued AtReturning = false
is_pursued AtYielding = false

-- the command that a seat has in hand, where it isn't committed and isn't to be given up
abbrev pub pursued_of : Option Command → Bool → View → List Command
pursued_of (Some c) quits view = c ∷ []
pursued_of None true view = []
pursued_of None false view = if is_pursued (stage_of view.point) then view.cmd ∷ [] else []

-- that command of a seat of the machine
abbrev pub pursued : Machine → ℕ → List Command
pursued m i = pursued_of (m.given i) (m.quits i) (m.core.view i)

-- all but the last command
abbrev pub without_last : List Command → List Command
without_last [] = []
without_last (c ∷ []) = []
without_last (c ∷ d ∷ commands) = c ∷ without_last (d ∷ commands)

-- the commands that a seat was given and didn't give up, after a call: a command that is given comes last, and is
-- dropped where the seat is asked to give up
abbrev pub kept_after : Machine → ℕ → Call → List Command → List Command
kept_after m i (Give j c) kept = if j == i then kept ++ c ∷ [] else kept
kept_after m i (Go j) kept = kept
kept_after m i (GiveUp j) kept = if (j == i) && not (m.quits i) then without_last kept else kept

-- the commands that a seat was given and didn't give up, after calls
abbrev pub kept_by : Fixed → Machine → ℕ → List Call → List Command → List Command
kept_by F m i [] kept = kept
kept_by F m i (call ∷ calls) kept = kept_by F (after_call F m call) i calls (kept_after m i call kept)
