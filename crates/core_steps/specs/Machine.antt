-- The core as a machine: which step a seat makes next, and the machine after it.
use Rattle.std.specs.Prelude.{ℕ, suc, map, ◌≤◌, ◌+◌, ◌<◌, ◌≡◌, ◌==◌, Bool, true, false, if◌then◌else◌, List, []}
use Rattle.std.specs.Prelude.{◌∷◌, length}
use Rattle.std.specs.Prelude.{Option, Some, None}
use Rattle.std.specs.Option.{option_map}
use Rattle.entity_recs.specs.declared.effect.Effect.{Effect}
use Rattle.entity_recs.specs.Commands.{Command}
use Rattle.entity_recs.specs.Worlds.{World}
use Rattle.entity_recs.specs.Histories.{Item}
use Rattle.core_steps.specs.declared.step.Step.{Step}
use Rattle.core_steps.specs.declared.step.StepKind.{StepKind}
use Rattle.core_steps.specs.declared.step.StepKind.TheVariants.{Take, GiveBack, LoadList, Load, Commit, Bit, Store}
use Rattle.core_steps.specs.declared.step.StepKind.TheVariants.{Count}
use Rattle.core_steps.specs.Cells.{Words, put, word_in, cell_of, count_index, node_index, links_index, cell_index}
use Rattle.core_steps.specs.Cells.{state_index}
use Rattle.core_steps.specs.Points as core_points
use Rattle.entity_recs.specs.declared.effect.NewState.{NewState}
use Rattle.core_steps.specs.Reads.{ListRead, PlayerRead}
use Rattle.core_steps.specs.Nodes.{Fixed}
use Rattle.core_steps.specs.Points.{Point, Idle, Owning, Taking, Checking, Entering, Entered, Loading, Leaving}
use Rattle.core_steps.specs.Points.{Sensing, Resolving, Claiming, Storing, Releasing, Returning, Yielding, stage_of}
use Rattle.core_steps.specs.Nodes.{write_nodes, nodes_of}
use Rattle.core_steps.specs.Points.{is_busy, is_whole}
use Rattle.core_steps.specs.Reads.{View, record_read, effect_loaded}
use Rattle.core_steps.specs.Nodes.{has}
use Rattle.core_steps.specs.Steps.{Core, item_at, take_node, claim_node, refuse_node, next_give, give_node, is_taking}
use Rattle.core_steps.specs.Steps.{first_yield, yield_node, yield_nothing, load_list, begin_move, load_own, load_again}
use Rattle.core_steps.specs.Steps.{load_player, load_state, commit, store_next}
use Rattle.core_steps.specs.Stands.{is_live_cell, IsGiven, AreDistinct, Stands}

-- the core, with what no view has yet: the commands that were given and aren't begun, and which seats are to give up
pub record Machine : Type 0 where
  pub core : Core
  pub given : ℕ → Option Command
  pub quits : ℕ → Bool

-- what a seat does next, with what it takes from its view
pub data Next : Type 0 where
  -- the command enters the view with the first word of the own record
  Begin : Command → Next
  -- one more word of the own record is loaded
  LoadOwn : Next
  -- one more word of the own record is loaded again
  LoadAgain : Next
  -- a node is taken
  TakeNode : ℕ → Next
  -- the first write node is taken, with which this effect enters the view
  ClaimNode : Effect → ℕ → Next
  -- the list word of the entered node is loaded; then comes the rest of the plan
  ReadList : ℕ → List ℕ → Next
  -- under the node one more word of this player is loaded, before the other players and the rest of the plan
  ReadPlayer : ℕ → List ℕ → ℕ → List ℕ → List ℕ → Next
  -- the state of this thing of the map is loaded, before those of the others
  ReadState : ℕ → List ℕ → Next
  -- the command is committed with this effect, where these write nodes are held
  CommitMove : Effect → List ℕ → Next
  -- with these write nodes held, the store is made, before the other stores
  StoreWord : List ℕ → core_points.Store → List core_points.Store → Next
  -- a node is given back
  GiveNode : ℕ → Next
  -- a node is given back, with which giving up begins
  YieldNode : ℕ → Next
  -- nothing is held: giving up loads the count
  YieldCount : Next

-- ---- which comes next

-- a node is given back, if there is one
abbrev pub giving : Option ℕ → Option Next
giving None = None
giving (Some node) = Some (GiveNode node)

-- giving up begins with this node, if there is one
abbrev pub quitting : Option ℕ → Next
quitting None = YieldCount
quitting (Some node) = YieldNode node

-- a command that was given is begun, if there is one
abbrev pub beginning : Option Command → Option Next
beginning None = None
beginning (Some c) = Some (Begin c)

-- the first of these write nodes is taken with this effect, or there is none and the command is committed
abbrev pub resolving : Effect → List ℕ → Next
resolving e [] = CommitMove e []
resolving e (node ∷ nodes) = ClaimNode e node

-- the command is committed with the effect in view
abbrev pub committing : Option Effect → List ℕ → Option Next
committing None nodes = None
committing (Some e) nodes = Some (CommitMove e nodes)

-- what comes next at this point, where the seat isn't to give up
abbrev pub next_at : Fixed → View → Option Command → Point → Option Next
next_at F view given Idle = beginning given
next_at F view given Owning = Some LoadOwn
next_at F view given (Taking got []) = None
next_at F view given (Taking got (leaf ∷ rest)) = Some (TakeNode leaf)
next_at F view given Checking = Some LoadAgain
next_at F view given (Entering node plan) = Some (TakeNode node)
next_at F view given (Entered node plan) = Some (ReadList node plan)
next_at F view given (Loading node part [] plan) = None
next_at F view given (Loading node part (slot ∷ players) plan) = Some (ReadPlayer node part slot players plan)
next_at F view given (Leaving node plan) = Some (GiveNode node)
next_at F view given (Sensing []) = None
next_at F view given (Sensing (id ∷ ids)) = Some (ReadState id ids)
next_at F view given Resolving = Some
    (resolving (effect_loaded F view) (write_nodes F (record_read view.cmd.slot view.again) (effect_loaded F view)))
next_at F view given (Claiming got []) = committing view.effect got
next_at F view given (Claiming got (node ∷ rest)) = Some (TakeNode node)
next_at F view given (Storing nodes []) = None
next_at F view given (Storing nodes (store ∷ stores)) = Some (StoreWord nodes store stores)
next_at F view given (Releasing nodes) = giving (next_give (Releasing nodes) view.wanted)
next_at F view given (Returning leaves) = giving (next_give (Returning leaves) view.wanted)
next_at F view given (Yielding nodes leaves) = giving (next_give (Yielding nodes leaves) view.wanted)

-- what the seat does next
abbrev pub next_of : Fixed → Machine → ℕ → Option Next
next_of F m i =
    if m.quits i then Some (quitting (first_yield F (m.core.view i)))
    else next_at F (m.core.view i) (m.given i) (m.core.view i).point

-- ---- as a step on one word

-- the kind of a store that is owed
abbrev pub kind_of_store : core_points.Store → StepKind
kind_of_store (core_points.Clear node) = Bit
kind_of_store (core_points.Put cell x) = Store
kind_of_store (core_points.Link node) = Bit

-- the index of the word of a store that is owed
abbrev pub index_of_store : core_points.Store → ℕ
index_of_store (core_points.Clear node) = links_index node
index_of_store (core_points.Put cell x) = cell_index cell
index_of_store (core_points.Link node) = links_index node

-- the kind of what comes next
abbrev pub kind_of : Next → StepKind
kind_of (Begin c) = Load
kind_of LoadOwn = Load
kind_of LoadAgain = Load
kind_of (TakeNode node) = Take
kind_of (ClaimNode e node) = Take
kind_of (ReadList node plan) = LoadList
kind_of (ReadPlayer node part slot players plan) = Load
kind_of (ReadState id ids) = Load
kind_of (CommitMove e nodes) = Commit
kind_of (StoreWord nodes store stores) = kind_of_store store
kind_of (GiveNode node) = GiveBack
kind_of (YieldNode node) = GiveBack
kind_of YieldCount = Count

-- the index of its word in the table
abbrev pub index_of : View → Next → ℕ
index_of view (Begin c) = cell_index (cell_of c.slot 0)
index_of view LoadOwn = cell_index (cell_of view.cmd.slot (length view.own))
index_of view LoadAgain = cell_index (cell_of view.cmd.slot (length view.again))
index_of view (TakeNode node) = node_index node
index_of view (ClaimNode e node) = node_index node
index_of view (ReadList node plan) = links_index node
index_of view (ReadPlayer node part slot players plan) = cell_index (cell_of slot (length part))
index_of view (ReadState id ids) = state_index id
index_of view (CommitMove e held) = count_index
index_of view (StoreWord held store stores) = index_of_store store
index_of view (GiveNode node) = node_index node
index_of view (YieldNode node) = node_index node
index_of view YieldCount = count_index

-- the step that the seat makes next, by its kind and its word
abbrev pub step_of : ℕ → View → Next → Step
step_of i view next = record { seat = i; word = index_of view next; kind = kind_of next }

-- the seat's next step, if it has one
abbrev pub next_step_of : Fixed → Machine → ℕ → Option Step
next_step_of F m i = option_map (step_of i (m.core.view i)) (next_of F m i)

-- ---- the machine after it

-- the core after what the seat does next; a take of a held node is refused
abbrev pub core_after : Fixed → Core → ℕ → Next → Core
core_after F core i (Begin c) = begin_move core i c
core_after F core i LoadOwn = load_own F core i
core_after F core i LoadAgain = load_again F core i
core_after F core i (TakeNode node) = if core.words.node node == 0 then take_node F core i node
    else refuse_node core i node
core_after F core i (ClaimNode e node) = if core.words.node node == 0 then claim_node F core i e node
    else refuse_node core i node
core_after F core i (ReadList node plan) = load_list F core i node plan
core_after F core i (ReadPlayer node part slot players plan) = load_player F core i node part slot players plan
core_after F core i (ReadState id ids) = load_state core i id ids
core_after F core i (CommitMove e nodes) = commit F core i e nodes
core_after F core i (StoreWord nodes store stores) = store_next core i nodes store stores
core_after F core i (GiveNode node) = give_node F core i node
core_after F core i (YieldNode node) = yield_node F core i node
core_after F core i YieldCount = yield_nothing core i

-- the machine after what the seat does next: no command of the seat is left to be begun, and the seat isn't to give up
-- any more
abbrev pub machine_after : Fixed → Machine → ℕ → Next → Machine
machine_after F m i next = record
    { core = core_after F m.core i next; given = put i None m.given; quits = put i false m.quits }

-- the item that it commits, if any
abbrev pub items_after : Core → ℕ → Next → List Item
items_after core i (CommitMove e nodes) = item_at core.words.commits (core.view i) e ∷ []
items_after _ _ _ = []

-- the word of a store
abbrev pub word_of_store : Words → core_points.Store → ℕ
word_of_store words (core_points.Clear node) = words.links node
word_of_store words (core_points.Put cell x) = word_in words cell
word_of_store words (core_points.Link node) = words.links node

-- the word of what comes next
abbrev pub word_of_next : Words → View → Next → ℕ
word_of_next words view (Begin c) = word_in words (cell_of c.slot 0)
word_of_next words view LoadOwn = word_in words (cell_of view.cmd.slot (length view.own))
word_of_next words view LoadAgain = word_in words (cell_of view.cmd.slot (length view.again))
word_of_next words view (TakeNode node) = words.node node
word_of_next words view (ClaimNode e node) = words.node node
word_of_next words view (ReadList node plan) = words.links node
word_of_next words view (ReadPlayer node part slot players plan) = word_in words (cell_of slot (length part))
word_of_next words view (ReadState id ids) = words.state id
word_of_next words view (CommitMove e nodes) = words.commits
word_of_next words view (StoreWord nodes store stores) = word_of_store words store
word_of_next words view (GiveNode node) = words.node node
word_of_next words view (YieldNode node) = words.node node
word_of_next words view YieldCount = words.commits

-- ---- words that are in use

-- the store is to the list word of a node of the tree, or to a word of a live player or a live id
abbrev pub IsStoreInUse : Fixed → core_points.Store → Type 0
IsStoreInUse F (core_points.Clear node) = node < nodes_of F
IsStoreInUse F (core_points.Put cell x) = is_live_cell F cell ≡ true
IsStoreInUse F (core_points.Link node) = node < nodes_of F

-- the word of what comes next is the count, the word or the list word of a node of the tree, or one of a live player or a
-- live id
abbrev pub IsInUse : Fixed → View → Next → Type 0
IsInUse F view (Begin c) = is_live_cell F (cell_of c.slot 0) ≡ true
IsInUse F view LoadOwn = is_live_cell F (cell_of view.cmd.slot (length view.own)) ≡ true
IsInUse F view LoadAgain = is_live_cell F (cell_of view.cmd.slot (length view.again)) ≡ true
IsInUse F view (TakeNode node) = node < nodes_of F
IsInUse F view (ClaimNode e node) = node < nodes_of F
IsInUse F view (ReadList node plan) = node < nodes_of F
IsInUse F view (ReadPlayer node part slot players plan) = is_live_cell F (cell_of slot (length part)) ≡ true
IsInUse F view (ReadState id ids) = has F.start.ids id ≡ true
IsInUse F view (CommitMove e nodes) = Unit {0}
IsInUse F view (StoreWord nodes store stores) = IsStoreInUse F store
IsInUse F view (GiveNode node) = node < nodes_of F
IsInUse F view (YieldNode node) = node < nodes_of F
IsInUse F view YieldCount = Unit {0}

-- ---- what holds of a machine

-- a command that was given and isn't begun: its seat is there, has no other command in hand, and has room
pub record IsPending (F : Fixed) (view : View) (c : Command) : Type 0 where
  pub lives : view.live ≡ true
  pub idle : view.point ≡ Idle
  pub command : IsGiven F c
  pub room : length view.log < view.room

-- leaves are left to be given back, and they are among those wanted
pub record AreLeavesLeft (inner leaves wanted : List ℕ) : Type 0 where
  pub some : 0 < length inner + length leaves
  pub among : (node : ℕ) → has leaves node ≡ true → has wanted node ≡ true

-- something is left where the point says so
abbrev pub SomeIsLeft : Point → List ℕ → Type 0
SomeIsLeft (Sensing ids) wanted = 0 < length ids
SomeIsLeft (Returning leaves) wanted = AreLeavesLeft [] leaves wanted
SomeIsLeft (Yielding nodes leaves) wanted = AreLeavesLeft nodes leaves wanted
SomeIsLeft _ _ = Unit {0}

-- how many list words may still be read: as many as there are nodes before the first is read, and then the nodes of the
-- plan that are ahead
abbrev pub lists_ahead : Fixed → Point → ℕ
lists_ahead F Idle = nodes_of F
lists_ahead F Owning = nodes_of F
lists_ahead F (Taking got rest) = nodes_of F
lists_ahead F Checking = nodes_of F
lists_ahead F (Entering node plan) = suc (length plan)
lists_ahead F (Entered node plan) = suc (length plan)
lists_ahead F (Loading node part players plan) = length plan
lists_ahead F (Leaving node plan) = length plan
lists_ahead F (Sensing ids) = 0
lists_ahead F Resolving = 0
lists_ahead F (Claiming got rest) = 0
lists_ahead F (Storing nodes stores) = 0
lists_ahead F (Releasing nodes) = 0
lists_ahead F (Returning leaves) = 0
lists_ahead F (Yielding nodes leaves) = 0

-- how many states may still be loaded: as many as there are live ids before all lists are read, and then those left
abbrev pub states_ahead : Fixed → Point → ℕ
states_ahead F Idle = length F.start.ids
states_ahead F Owning = length F.start.ids
states_ahead F (Taking got rest) = length F.start.ids
states_ahead F Checking = length F.start.ids
states_ahead F (Entering node plan) = length F.start.ids
states_ahead F (Entered node plan) = length F.start.ids
states_ahead F (Loading node part players plan) = length F.start.ids
states_ahead F (Leaving node plan) = length F.start.ids
states_ahead F (Sensing ids) = length ids
states_ahead F Resolving = 0
states_ahead F (Claiming got rest) = 0
states_ahead F (Storing nodes stores) = 0
states_ahead F (Releasing nodes) = 0
states_ahead F (Returning leaves) = 0
states_ahead F (Yielding nodes leaves) = 0

-- the slots of the players that were loaded
abbrev pub slots_of : List PlayerRead → List ℕ
slots_of = map (λ (read : PlayerRead). read.slot)

-- no list word, player or state is read more often than there are nodes, slots or live ids
pub record Fits (F : Fixed) (point : Point) (lists : List ListRead) (others : List PlayerRead)
    (states : List NewState) :
    Type 0 where
  pub few_lists : length lists + lists_ahead F point ≤ nodes_of F
  pub once : AreDistinct (slots_of others)
  pub below : (slot : ℕ) → has (slots_of others) slot ≡ true → slot < 64
  pub few_states : length states + states_ahead F point ≤ length F.start.ids

-- what a view has read fits
abbrev pub ViewFits : Fixed → View → Type 0
ViewFits F view = Fits F view.point view.lists view.others view.states

-- a seat has something to do where it has a command in hand
pub record HasNext (point : Point) (wanted : List ℕ) : Type 0 where
  pub some_wanted : is_whole (stage_of point) ≡ true → 0 < length wanted
  pub left : SomeIsLeft point wanted

-- what holds of the machine, the history of all commits, and the run of it
pub record MachineStands (F : Fixed) (m : Machine) (history : List Item) (now : World) : Type 0 where
  pub core : Stands F m.core history now
  pub pending : (i : ℕ) (c : Command) → m.given i ≡ Some c → IsPending F (m.core.view i) c
  pub given_apart : (i j : ℕ) (c d : Command) → (i == j) ≡ false → m.given i ≡ Some c → m.given j ≡ Some d
      → (c.slot == d.slot) ≡ false
  pub busy_apart : (i j : ℕ) (c : Command) → (i == j) ≡ false → m.given i ≡ Some c
      → is_busy (stage_of (m.core.view j).point) ≡ true
      → (c.slot == (m.core.view j).cmd.slot) ≡ false
  pub quits : (i : ℕ) → m.quits i ≡ true → is_taking (m.core.view i).point ≡ true
  pub next : (i : ℕ) → HasNext (m.core.view i).point (m.core.view i).wanted
  pub fits : (i : ℕ) → ViewFits F (m.core.view i)
