-- That each kind of step keeps what stands.
use Rattle.std.specs.Prelude.{◌≡◌, ℕ, ◌<◌, ◌≤◌, ◌==◌, length, true, false, List, [], ◌∷◌, ◌++◌}
use Rattle.std.specs.Prelude.{Some, None, map}
use Rattle.std.specs.List.Sorted.{IsStrictlyIncreasing}
use Rattle.arena_geo.specs.Bounds.{Bounds}
use Rattle.entity_recs.specs.declared.kind.Kind.TheVariants.{Player}
use Rattle.entity_recs.specs.declared.rec.Rec.{Rec}
use Rattle.entity_recs.specs.Records.{with_state}
use Rattle.entity_recs.specs.Actions.{IsKeepable}
use Rattle.areanode.specs.Trees.{IsTreeDepth}
use Rattle.core_steps.specs.declared.sizes.TheConstants.{TABLE_NODES, TABLE_LEAVES, TABLE_STATES, TABLE_WORDS}
use Rattle.core_steps.specs.declared.sizes.TheConstants.{MOST_SEATS, NODE_HOLDERS, COUNT_WORD}
use Rattle.core_steps.specs.Cells.{Words, Body, State, count_index, node_index, links_index, body_index, state_index}
use Rattle.core_steps.specs.Cells.{cell_index, word_at}
use Rattle.core_steps.specs.Encoding.{words_of, record_from}
use Rattle.entity_recs.specs.declared.effect.Effect.{Effect}
use Rattle.entity_recs.specs.Commands.{Command}
use Rattle.entity_recs.specs.Worlds.{World}
use Rattle.entity_recs.specs.Histories.{Item, apply}
use Rattle.core_steps.specs.Nodes.{Fixed, write_nodes}
use Rattle.core_steps.specs.Points.{Store, Storing, Resolving, Claiming}
use Rattle.core_steps.specs.Reads.{record_read, effect_loaded}
use Rattle.core_steps.specs.Points.{Idle, Owning, Checking, Sensing, Loading, Entered, AtChecking, stage_of, is_busy}
use Rattle.core_steps.specs.Nodes.{taking_order, plan_of, has, nodes_of, FitsTable}
use Rattle.core_steps.specs.Points.{is_open}
use Rattle.core_steps.specs.Held.{leaves_held, holds}
use Rattle.core_steps.specs.Steps.{store_next, item_at, commit, SomeSeatGoesOn, Core, first, claim_node, next_take}
use Rattle.core_steps.specs.Steps.{take_node, refuse_node, next_give, give_node, is_taking, first_yield, yield_node}
use Rattle.core_steps.specs.Steps.{yield_nothing, load_list, begin_move, load_own, load_again, load_player, load_state}
use Rattle.core_steps.specs.Steps.{make_seat, end_seat, load_count, next_node}
use Rattle.core_steps.specs.Stands.{IsGiven, IsLawful, IsStart, Stands, start_core, items_of, IsNumbered}
use Rattle.core_steps.specs.Stands.{IsReadStill}

-- a seat is there and has no command in hand
pub record IsResting (core : Core) (i : ℕ) : Type 0 where
  pub lives : (core.view i).live ≡ true
  pub idle : (core.view i).point ≡ Idle

-- the start stands, with no history
abbrev pub StartStands : Type 0
StartStands = (F : Fixed) (room : ℕ) → Stands F (start_core F room) [] F.start

-- a seat that is made leaves what stands
abbrev pub MadeSeatStands : Type 0
MadeSeatStands = (F : Fixed) (core : Core) (history : List Item) (now : World) (room : ℕ) → IsResting core 0
    → Stands F core history now → Stands F (make_seat core room) history now

-- a seat that is ended leaves what stands
abbrev pub EndedSeatStands : Type 0
EndedSeatStands =
    (F : Fixed) (core : Core) (history : List Item) (now : World) (i : ℕ) → (i == 0) ≡ false → IsResting core i
    → IsResting core 0
    → Stands F core history now → Stands F (end_seat core i) history now

-- the items of all logs are the same, in the same order, after a seat is ended into seat 0
abbrev pub EndedSeatKeepsItems : Type 0
EndedSeatKeepsItems =
    (F : Fixed) (core : Core) (i : ℕ) → (i == 0) ≡ false → IsResting core i → IsNumbered core.view
    → items_of (end_seat core i).view ≡ items_of core.view

-- a count that is loaded leaves what stands
abbrev pub LoadedCountStands : Type 0
LoadedCountStands = (F : Fixed) (core : Core) (history : List Item) (now : World) (i : ℕ) → IsResting core i
    → Stands F core history now → Stands F (load_count core i) history now

-- a node that is given back leaves what stands
abbrev pub GivenNodeStands : Type 0
GivenNodeStands =
    (F : Fixed) (core : Core) (history : List Item) (now : World) (i node : ℕ)
    → next_give (core.view i).point (core.view i).wanted ≡ Some node
    → Stands F core history now → Stands F (give_node F core i node) history now

-- the first node that is given back by a seat that gives up, at any take before its commit or where the commit comes
-- next, leaves what stands
abbrev pub YieldedNodeStands : Type 0
YieldedNodeStands =
    (F : Fixed) (core : Core) (history : List Item) (now : World) (i node : ℕ) → is_taking (core.view i).point ≡ true
    → first_yield F (core.view i) ≡ Some node
    → Stands F core history now → Stands F (yield_node F core i node) history now

-- a seat that gives up and holds nothing loads the count, which leaves what stands
abbrev pub YieldedNothingStands : Type 0
YieldedNothingStands =
    (F : Fixed) (core : Core) (history : List Item) (now : World) (i : ℕ) → is_taking (core.view i).point ≡ true
    → first_yield F (core.view i) ≡ None
    → Stands F core history now → Stands F (yield_nothing core i) history now

-- a node that is taken, where no effect enters the view, leaves what stands
abbrev pub TakenNodeStands : Type 0
TakenNodeStands =
    (F : Fixed) (core : Core) (history : List Item) (now : World) (i node : ℕ)
    → next_take (core.view i).point ≡ Some node → core.words.node node ≡ 0
    → Stands F core history now → Stands F (take_node F core i node) history now

-- a take of a held node is refused, which leaves what stands
abbrev pub RefusedNodeStands : Type 0
RefusedNodeStands =
    (F : Fixed) (core : Core) (history : List Item) (now : World) (i node : ℕ) → is_taking (core.view i).point ≡ true
    → (core.words.node node == 0) ≡ false
    → Stands F core history now → Stands F (refuse_node core i node) history now

-- the five words of a player's record that can be kept give it back, with the state that is given
abbrev pub EncodedIsDecoded : Type 0
EncodedIsDecoded = (r : Rec) (state : ℕ) → IsKeepable r → r.kind ≡ Player
    → record_from r.id (words_of r) state ≡ with_state r state

-- a list word that is loaded leaves what stands
abbrev pub LoadedListStands : Type 0
LoadedListStands =
    (F : Fixed) (core : Core) (history : List Item) (now : World) (i node : ℕ) (plan : List ℕ) → IsLawful F
    → IsStart F → (core.view i).point ≡ Entered node plan
    → Stands F core history now → Stands F (load_list F core i node plan) history now

-- a command that enters a view with the first load of the own record leaves what stands: its player is live, the seat
-- has room, and no other seat has a command of that slot in hand
abbrev pub BegunMoveStands : Type 0
BegunMoveStands =
    (F : Fixed) (core : Core) (history : List Item) (now : World) (i : ℕ) (c : Command) → IsResting core i
    → IsGiven F c → length (core.view i).log < (core.view i).room
    → ((j : ℕ) → (j == i) ≡ false → is_busy (stage_of (core.view j).point) ≡ true
    → (c.slot == (core.view j).cmd.slot) ≡ false)
    → Stands F core history now → Stands F (begin_move core i c) history now

-- a further word of the own record that is loaded leaves what stands
abbrev pub LoadedOwnStands : Type 0
LoadedOwnStands =
    (F : Fixed) (core : Core) (history : List Item) (now : World) (i : ℕ) → IsLawful F → IsStart F
    → (core.view i).point ≡ Owning
    → Stands F core history now → Stands F (load_own F core i) history now

-- a word of the own record that is loaded again leaves what stands
abbrev pub LoadedAgainStands : Type 0
LoadedAgainStands =
    (F : Fixed) (core : Core) (history : List Item) (now : World) (i : ℕ) → IsLawful F → IsStart F
    → (core.view i).point ≡ Checking
    → Stands F core history now → Stands F (load_again F core i) history now

-- the state of a thing of the map that is loaded leaves what stands
abbrev pub LoadedStateStands : Type 0
LoadedStateStands =
    (F : Fixed) (core : Core) (history : List Item) (now : World) (i id : ℕ) (ids : List ℕ) → IsLawful F → IsStart F
    → (core.view i).point ≡ Sensing (id ∷ ids)
    → Stands F core history now → Stands F (load_state core i id ids) history now

-- a word of another player's record that is loaded under a node leaves what stands
abbrev pub LoadedPlayerStands : Type 0
LoadedPlayerStands =
    (F : Fixed) (core : Core) (history : List Item) (now : World) (i node p : ℕ) (part players plan : List ℕ)
    → IsLawful F → IsStart F
    → (core.view i).point ≡ Loading node part (p ∷ players) plan → Stands F core history now
    → Stands F (load_player F core i node part p players plan) history now

-- how large the table is, how many seats there may be, and where the words of each kind begin
pub record TableIsKnown : Type 0 where
  pub nodes : TABLE_NODES ≡ 63
  pub leaves : TABLE_LEAVES ≡ 32
  pub states : TABLE_STATES ≡ 512
  pub words : TABLE_WORDS ≡ 959
  pub seats : MOST_SEATS ≡ 16
  pub holders : NODE_HOLDERS ≡ 256
  pub count : COUNT_WORD ≡ 0
  pub first_node : node_index 0 ≡ 1
  pub first_list : links_index 0 ≡ 64
  pub first_record : body_index 0 ≡ 127
  pub first_state : state_index 0 ≡ 447

-- the table has words for each node of a tree of each depth that a tree may have
abbrev pub EachTreeFits : Type 0
EachTreeFits = (F : Fixed) → IsTreeDepth F.tree.depth → FitsTable F

-- each word lies at its index in the flat table
pub record LaysOut (words : Words) : Type 0 where
  pub count : word_at words count_index ≡ words.commits
  pub node : (v : ℕ) → v < TABLE_NODES → word_at words (node_index v) ≡ words.node v
  pub links : (v : ℕ) → v < TABLE_NODES → word_at words (links_index v) ≡ words.links v
  pub body : (slot k : ℕ) → slot < 64 → k < 5 → word_at words (cell_index (Body slot k)) ≡ words.body slot k
  pub state : (id : ℕ) → word_at words (cell_index (State id)) ≡ words.state id

-- the words lie in the flat table at their indices, whatever the tree
abbrev pub LayoutIsRight : Type 0
LayoutIsRight = (words : Words) → LaysOut words

-- the words in the flat table of nodes that the tree hasn't, of players that aren't live and of ids that aren't live are
-- 0
pub record HasUnusedWords (F : Fixed) (words : Words) : Type 0 where
  pub node : (v : ℕ) → v < TABLE_NODES → nodes_of F ≤ v → word_at words (node_index v) ≡ 0
  pub links : (v : ℕ) → v < TABLE_NODES → nodes_of F ≤ v → word_at words (links_index v) ≡ 0
  pub body : (slot k : ℕ) → slot < 64 → k < 5 → has F.start.ids slot ≡ false
      → word_at words (cell_index (Body slot k)) ≡ 0
  pub state : (id : ℕ) → has F.start.ids id ≡ false → word_at words (cell_index (State id)) ≡ 0

-- and they stay 0, since they are between any two steps
abbrev pub UnusedWordsAreZero : Type 0
UnusedWordsAreZero = (F : Fixed) (core : Core) (history : List Item) (now : World) → Stands F core history now
    → HasUnusedWords F core.words

-- the first write node that is taken, with which the effect that the action gives on what was loaded enters the view,
-- leaves what stands
abbrev pub ClaimedNodeStands : Type 0
ClaimedNodeStands =
    (F : Fixed) (core : Core) (history : List Item) (now : World) (i : ℕ) (e : Effect) (node : ℕ) → IsLawful F
    → IsStart F → (core.view i).point ≡ Resolving
    → e ≡ effect_loaded F (core.view i)
    → first (write_nodes F (record_read (core.view i).cmd.slot (core.view i).again) e) ≡ Some node
    → core.words.node node ≡ 0
    → Stands F core history now → Stands F (claim_node F core i e node) history now

-- a store that is owed next, of the own bit or of a word, leaves what stands
abbrev pub StoredNextStands : Type 0
StoredNextStands =
    (F : Fixed) (core : Core) (history : List Item) (now : World) (i : ℕ) (nodes : List ℕ) (store : Store)
    (stores : List Store) → IsLawful F → IsStart F
    → (core.view i).point ≡ Storing nodes (store ∷ stores) → Stands F core history now
    → Stands F (store_next core i nodes store stores) history now

-- a commit of the effect in view, where the write nodes are held, appends the seat's command with its entry to the
-- history, and leaves what stands
abbrev pub CommittedHeldStands : Type 0
CommittedHeldStands =
    (F : Fixed) (core : Core) (history : List Item) (now : World) (i : ℕ) (nodes : List ℕ) (e : Effect) → IsLawful F
    → IsStart F
    → (core.view i).point ≡ Claiming nodes [] → (core.view i).effect ≡ Some e → Stands F core history now
    → Stands F (commit F core i e nodes)
    (history ++ item_at core.words.commits (core.view i) e ∷ []) (apply F.effect_of now (core.view i).cmd)

-- a commit without write nodes, with which the effect that the action gives on what was loaded enters the view, does
-- the same
abbrev pub CommittedFreeStands : Type 0
CommittedFreeStands =
    (F : Fixed) (core : Core) (history : List Item) (now : World) (i : ℕ) (e : Effect) → IsLawful F → IsStart F
    → (core.view i).point ≡ Resolving
    → e ≡ effect_loaded F (core.view i)
    → write_nodes F (record_read (core.view i).cmd.slot (core.view i).again) e ≡ [] → Stands F core history now
    → Stands F (commit F core i e [])
    (history ++ item_at core.words.commits (core.view i) e ∷ []) (apply F.effect_of now (core.view i).cmd)

-- of a seat that holds all its leaves and hasn't committed, also one that gives up: what it has read and needs is as in
-- the run, its effect is the outcome there, and the words that were read at its leaves are still their words
abbrev pub ReadIsRightWhileLeavesAreHeld : Type 0
ReadIsRightWhileLeavesAreHeld =
    (F : Fixed) (core : Core) (history : List Item) (now : World) (i : ℕ) → Stands F core history now
    → is_open (stage_of (core.view i).point) ≡ true
    → leaves_held (core.view i).point (core.view i).wanted ≡ (core.view i).wanted
    → IsReadStill F core.words.links now (core.view i).cmd AtChecking (core.view i).own (core.view i).wanted
    (core.view i).again (core.view i).lists (core.view i).others (core.view i).states (core.view i).effect

-- where a seat has a command in hand, some seat with a command in hand doesn't wait
abbrev pub NotAllWait : Type 0
NotAllWait =
    (F : Fixed) (core : Core) (history : List Item) (now : World) (i : ℕ) → Stands F core history now
    → is_busy (stage_of (core.view i).point) ≡ true
    → SomeSeatGoesOn F core

-- a seat that takes a node next holds only nodes that come before it: leaves by number, then inner nodes by number
abbrev pub TakesComeInOrder : Type 0
TakesComeInOrder =
    (F : Fixed) (core : Core) (history : List Item) (now : World) (i node held : ℕ) → Stands F core history now
    → next_node F (core.view i) ≡ Some node
    → holds F (core.view i).point (core.view i).wanted held ≡ true
    → taking_order F held < taking_order F node

-- the nodes that are read for a region come in that order too
abbrev pub PlansComeInOrder : Type 0
PlansComeInOrder = (F : Fixed) (region : List Bounds) → IsStrictlyIncreasing (map (taking_order F) (plan_of F region))
