-- The rule of the table: what holds between any two steps of any threads.
use Rattle.std.specs.Prelude.{◌≡◌, ◌≢◌, ℕ, ◌%◌, ◌^◌, ◌<◌, ◌≤◌, true, false, List, length, slice_index, None, All}
use Rattle.areanode.specs.Trees.{IsTreeDepth}
use Rattle.core_steps.specs.declared.sizes.TheConstants.{TABLE_WORDS, MOST_SEATS}
use mathlib.Core.Option as maybe
use lib.ListN.{get_elem?}
use Rattle.atomic_table.specs.Table.{State}
use Rattle.entity_recs.specs.Worlds.{World}
use Rattle.entity_recs.specs.Histories.{Item}
use Rattle.core_steps.specs.Cells.{word_at}
use Rattle.core_steps.specs.Nodes.{Fixed}
use Rattle.core_steps.specs.Points.{stage_of, is_busy}
use Rattle.core_steps.specs.Reads.{Ended, new_view}
use Rattle.core_steps.specs.Steps.{Core}
use Rattle.core_steps.specs.Stands.{IsLawful, IsStart}
use Rattle.core_steps.specs.Machine.{Machine, MachineStands}
use Rattle.ruled_words.specs.Sights.{HeldWord, IsOneOf, no_tally, SightView}

-- the core as a machine of which no seat has a command that isn't begun or is asked to give up
abbrev pub at_rest : Core → Machine
at_rest core = record { core = core; given = λ i. None; quits = λ i. false }

-- the words of the table are those of the core, each at its index
pub record HasWords (words : List ℕ) (core : Core) : Type 0 where
  pub count : length words ≡ TABLE_WORDS
  pub each : (index : ℕ) → index < TABLE_WORDS → slice_index words index ≡ word_at core.words index

-- the seats of the table are those of the core, each at the place of its number
pub record HasSeats (sights : List SightView) (core : Core) : Type 0 where
  pub view : (k : ℕ) (sight : SightView) → get_elem? sights k ≡ maybe.some sight → core.view k ≡ sight.view
  pub number : (k : ℕ) (sight : SightView) → get_elem? sights k ≡ maybe.some sight → sight.view.live ≡ true
      → sight.number ≡ k
  pub made : (core.view 0).made ≡ length sights

-- of n passes, pass i serves the slots that leave i when they are divided by n
abbrev pub ServesItsSlots : ℕ → Core → Type 0
ServesItsSlots passes core = (k : ℕ) → is_busy (stage_of (core.view k).point) ≡ true
    → (core.view k).cmd.slot % passes ≡ k

-- no more seats are made than there are rooms, of which there are no more than there may be seats, and each room is a
-- number of 32 bits
pub record HasRooms (rooms : List ℕ) (core : Core) : Type 0 where
  pub few : length rooms ≤ MOST_SEATS
  pub made : (core.view 0).made ≤ length rooms
  pub room : (k : ℕ) → (core.view k).room < 2 ^ 32
  pub ended : All (λ (e : Ended). e.room < 2 ^ 32) (core.view 0).ended

-- there are some rooms, and no more than there may be seats
pub record HasSomeRooms (rooms : List ℕ) : Type 0 where
  pub some : 0 < length rooms
  pub few : length rooms ≤ MOST_SEATS

-- some seat took this node and wrote this word
pub record WasTaken (sights : List SightView) (h : HeldWord) : Type 0 where
  pub seat : ℕ
  pub sight : SightView
  pub at : get_elem? sights seat ≡ maybe.some sight
  pub listed : IsOneOf h sight.tally.served

-- each node that isn't free was taken so by some seat, and so was each at which a take was refused
pub record AreTakesListed (sights : List SightView) (node_word : ℕ → ℕ) : Type 0 where
  pub held : (node : ℕ) → node_word node ≢ 0 → WasTaken sights (record { node = node; word = node_word node })
  pub ended : (k : ℕ) (sight : SightView) → get_elem? sights k ≡ maybe.some sight → sight.view.live ≡ false
      → sight.tally ≡ no_tally
  pub refused : (k : ℕ) (sight : SightView) → get_elem? sights k ≡ maybe.some sight → (h : HeldWord)
      → IsOneOf h sight.tally.refused → WasTaken sights h

-- some core with the words and the seats of the table stands, with some history
pub record IsRuled (F : Fixed) (rooms : List ℕ) (s : State (Unit {0}) SightView) : Type 0 where
  pub core : Core
  pub history : List Item
  pub now : World
  pub lawful : IsLawful F
  pub start : IsStart F
  pub depth : IsTreeDepth F.tree.depth
  pub stands : MachineStands F (at_rest core) history now
  pub words : HasWords s.words core
  pub seats : HasSeats s.views core
  pub serves : ServesItsSlots (length rooms) core
  pub fits : HasRooms rooms core
  pub takes : AreTakesListed s.views core.words.node

-- the sight of the first seat, with this room
abbrev pub first_sight : ℕ → SightView
first_sight room = record { number = 0; view = record (new_view room) { made = 1 }; tally = no_tally }
