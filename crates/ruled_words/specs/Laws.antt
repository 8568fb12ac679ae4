-- What the rule of the table keeps, and what it says at the start and at the end.
use Rattle.std.specs.Prelude.{◌≡◌, ◌≢◌, ℕ, ◌+◌, ◌/◌, ◌%◌, ◌^◌, ◌<◌, ◌≤◌, Bool, true, false, List, [], ◌∷◌, ◌++◌, length}
use Rattle.std.specs.Prelude.{slice_index, slice_set}
use Rattle.std.specs.Prelude.{Option}
use Rattle.arena_geo.specs.Bounds.{Bounds}
use Rattle.areanode.specs.Words.{has_bit}
use Rattle.areanode.specs.Trees.{IsTreeDepth, leaves_of}
use Rattle.core_steps.specs.declared.sizes.TheConstants.{TABLE_NODES, TABLE_STATES, MOST_SEATS, NODE_HOLDERS}
use Rattle.core_steps.specs.Cells.{Body, State as StateOf, node_index, links_index, cell_index}
use mathlib.Core.Option as maybe
use lib.ListN.{get_elem?}
use Rattle.atomic_table.specs.Table.{State, keeps, stepped, opening}
use Rattle.entity_recs.specs.Commands.{Command}
use Rattle.core_steps.specs.Nodes.{Fixed, has, nodes_of, is_leaf, leaf_nodes}
use Rattle.core_steps.specs.Points.{Stage, is_writing}
use Rattle.core_steps.specs.Held.{held_word}
use Rattle.core_steps.specs.Stands.{IsLawful, IsStart, start_core}
use Rattle.core_steps.specs.Machine.{Next, index_of}
use Rattle.ruled_words.specs.Sights.{HeldWord, IsOneOf, AreRefusalsServed, SightView, sight_found, no_sight}
use Rattle.ruled_words.specs.Sights.{with_one_made, sight_made, with_one_ended}
use Rattle.ruled_words.specs.Going.{view_looked, IsAtRest, MayGo}
use Rattle.core_seats.specs.Going.{word_left}
use Rattle.ruled_words.specs.Rule.{HasWords, WasTaken, IsRuled, first_sight}
use Rattle.ruled_words.specs.Ends.{AreOthersEnded, Closes}

-- the table at the start, with the words of the world and seat 0, meets the rule
abbrev pub StartIsRuled : Type 0
StartIsRuled = (F : Fixed) (rooms words : List ℕ) → IsLawful F → IsStart F → IsTreeDepth F.tree.depth → 0 < length rooms
    → length rooms ≤ MOST_SEATS → slice_index rooms 0 < 2 ^ 32 → HasWords words (start_core F (slice_index rooms 0))
    → IsRuled F rooms (opening words [] (first_sight (slice_index rooms 0)))

-- a seat's next step, which leaves in its word what it should, keeps the rule
abbrev pub StepsKeepTheRule : Type 0
StepsKeepTheRule = (F : Fixed) (rooms : List ℕ) (s : State (Unit {0}) SightView) → IsRuled F rooms s
    → (i : ℕ) (sight : SightView) → get_elem? s.views i ≡ maybe.some sight
    → (given : Option Command) (quits : Bool) (next : Next)
    → MayGo F (length rooms) sight.number sight.view given quits next
    → (left : ℕ)
    → left ≡ word_left F sight.number sight.view next (slice_index s.words (index_of sight.view next))
    → IsRuled F rooms (stepped s (index_of sight.view next) left i []
    (sight_found F sight next (slice_index s.words (index_of sight.view next))) keeps)

-- a seat that rests and looks at the count keeps the rule
abbrev pub LooksKeepTheRule : Type 0
LooksKeepTheRule = (F : Fixed) (rooms : List ℕ) (s : State (Unit {0}) SightView) → IsRuled F rooms s
    → (i : ℕ) (sight : SightView) → get_elem? s.views i ≡ maybe.some sight → IsAtRest sight.view
    → IsRuled F rooms (stepped s 0 (slice_index s.words 0) i []
    (record sight { view = view_looked (slice_index s.words 0) sight.view }) keeps)

-- a seat that is made from seat 0 keeps the rule
abbrev pub MadeSeatsKeepTheRule : Type 0
MadeSeatsKeepTheRule = (F : Fixed) (rooms : List ℕ) (room : ℕ) (s : State (Unit {0}) SightView) → IsRuled F rooms s
    → (sight : SightView) → get_elem? s.views 0 ≡ maybe.some sight → IsAtRest sight.view
    → sight.view.made < length rooms → room < 2 ^ 32
    → IsRuled F rooms (record {
      words = s.words;
      homes = s.homes;
      views = slice_set s.views 0 (with_one_made sight) ++ sight_made room sight ∷ [];
    })

-- a seat that is ended into seat 0 keeps the rule
abbrev pub EndedSeatsKeepTheRule : Type 0
EndedSeatsKeepTheRule = (F : Fixed) (rooms : List ℕ) (s : State (Unit {0}) SightView) → IsRuled F rooms s
    → (i : ℕ) (sight ended : SightView) → get_elem? s.views 0 ≡ maybe.some sight → i ≢ 0
    → get_elem? s.views i ≡ maybe.some ended → IsAtRest sight.view → IsAtRest ended.view
    → IsRuled F rooms (record {
      words = s.words;
      homes = s.homes;
      views = slice_set (slice_set s.views 0 (with_one_ended sight ended)) i no_sight;
    })

-- between any two steps: each word that a seat found where its take was refused was written by a seat whose take of that
-- node was served
abbrev pub RefusedTakesWereServed : Type 0
RefusedTakesWereServed = (F : Fixed) (rooms : List ℕ) (s : State (Unit {0}) SightView) → IsRuled F rooms s
    → (i : ℕ) (sight : SightView) → get_elem? s.views i ≡ maybe.some sight
    → (h : HeldWord) → IsOneOf h sight.tally.refused → WasTaken s.views h

-- once all other seats are ended into seat 0: its logs are those of a legal history, the words are those of its run, and
-- each word that was found where a take was refused was written where one was served
abbrev pub ClosedTableIsItsRun : Type 0
ClosedTableIsItsRun = (F : Fixed) (rooms : List ℕ) (s : State (Unit {0}) SightView) → IsRuled F rooms s
    → (sight : SightView) → get_elem? s.views 0 ≡ maybe.some sight → IsAtRest sight.view → AreOthersEnded sight.view
    → Closes F s.words sight.view × AreRefusalsServed sight.tally

-- these words of the table are 0: those of nodes that the tree hasn't, of players that aren't live and of ids that aren't
-- live
pub record HasUnusedIn (F : Fixed) (words : List ℕ) : Type 0 where
  pub node : (v : ℕ) → v < TABLE_NODES → nodes_of F ≤ v → slice_index words (node_index v) ≡ 0
  pub links : (v : ℕ) → v < TABLE_NODES → nodes_of F ≤ v → slice_index words (links_index v) ≡ 0
  pub body : (slot k : ℕ) → slot < 64 → k < 5 → has F.start.ids slot ≡ false
      → slice_index words (cell_index (Body slot k)) ≡ 0
  pub state : (id : ℕ) → id < TABLE_STATES → has F.start.ids id ≡ false
      → slice_index words (cell_index (StateOf id)) ≡ 0

-- between any two steps the words that are in no use are 0
abbrev pub UnusedWordsStayZero : Type 0
UnusedWordsStayZero = (F : Fixed) (rooms : List ℕ) (s : State (Unit {0}) SightView) → IsRuled F rooms s
    → HasUnusedIn F s.words

-- the word of a node says which seat holds it: its low bits are the seat's number plus 1, those above them are the leaves
-- of this region where the node is a leaf, and for an inner node the lowest of them says whether it is held to write
pub record NamesItsHolder (F : Fixed) (i : ℕ) (stage : Stage) (region : List Bounds) (node word : ℕ) : Type 0 where
  pub number : word % NODE_HOLDERS ≡ i + 1
  pub leaves : is_leaf F node ≡ true → word / NODE_HOLDERS ≡ leaves_of F.tree region
  pub writing : is_leaf F node ≡ false → has_bit word 8 ≡ is_writing stage
  pub fits : word < 2 ^ 64

-- the word of a node that a seat holds for a region names that seat and the leaves of the region
abbrev pub HeldWordsNameTheirHolder : Type 0
HeldWordsNameTheirHolder = (F : Fixed) (i : ℕ) (stage : Stage) (region : List Bounds) (node : ℕ) → i < MOST_SEATS
    → IsTreeDepth F.tree.depth → NamesItsHolder F i stage region node (held_word F i stage (leaf_nodes F region) node)
