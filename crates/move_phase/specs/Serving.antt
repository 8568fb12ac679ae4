-- Which moves each pass serves, and the logs of passes that served them.
use Rattle.std.specs.Prelude.{◌≡◌, ℕ, ◌<◌, ◌≤◌, ◌%◌, ◌==◌, List, length, map, filter, slice_index_or}
use Rattle.std.specs.List.{AllPairs, flat_map}
use Rattle.std.specs.List.Sorted.{IsPermutation}
use Rattle.entity_recs.specs.Commands.{Command}
use Rattle.move_phase.specs.declared.rooms.TheConstants.{MOST_WORKERS}
use Rattle.entity_recs.specs.declared.effect.Entry.{Entry}
use Rattle.entity_recs.specs.Worlds.{World}
use Rattle.entity_recs.specs.Histories.{Action, Item, IsLegal, commands_of}

-- how many workers a frame may have
abbrev pub AreWorkers : ℕ → Type 0
AreWorkers workers = (1 ≤ workers) × (workers ≤ MOST_WORKERS)

-- the moves that a pass of this number serves, one of so many passes, in the order of arrival
abbrev pub served_by : ℕ → ℕ → List Command → List Command
served_by passes number moves = filter (λ c. c.slot % passes == number) moves

-- the entries of items
abbrev pub entries_from : List Item → List Entry
entries_from items = map (λ item. item.entry) items

-- each item's place is below those of the items after it
abbrev pub Rises : List Item → Type 0
Rises items = AllPairs (λ a b. a.entry.place < b.entry.place) items

-- so many passes with these logs served the moves: each log has the moves of its pass, its places rise, and the items
-- of all logs are those of a legal history
pub record HaveServed (act : Action) (w : World) (passes : ℕ) (moves : List Command) (logs : List (List Item))
    (history : List Item) : Type 0 where
  pub count : length logs ≡ passes
  pub served : (i : ℕ) (d : List Item) → i < passes → commands_of (slice_index_or logs i d) ≡ served_by passes i moves
  pub rising : (i : ℕ) (d : List Item) → i < passes → Rises (slice_index_or logs i d)
  pub items : IsPermutation history (flat_map (λ (log : List Item). log) logs)
  pub legal : IsLegal act w history
