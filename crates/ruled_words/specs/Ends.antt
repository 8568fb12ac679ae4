-- What is read of a table at its end.
use Rattle.std.specs.Prelude.{◌≡◌, ℕ, ◌<◌, ◌==◌, nat_lt, true, if◌then◌else◌, List, [], ◌∷◌, map, slice_index, All}
use Rattle.std.specs.List.Sorted.{IsPermutation, IsStrictlyIncreasing}
use Rattle.entity_recs.specs.declared.limits.TheConstants.{IDS}
use Rattle.entity_recs.specs.declared.rec.Rec.{Rec}
use Rattle.entity_recs.specs.Records.{with_state}
use Rattle.entity_recs.specs.Worlds.{World}
use Rattle.entity_recs.specs.Histories.{Item, run, IsLegal, places_of}
use Rattle.move_journal.specs.Lists.{IsWorldOf}
use Rattle.world_tree.specs.Live.{live_in, IsEntry}
use Rattle.world_tree.specs.Worlds.{WorldView}
use Rattle.core_steps.specs.Cells.{Body, State, cell_index}
use Rattle.core_steps.specs.Encoding.{record_from}
use Rattle.core_steps.specs.Nodes.{Fixed, has}
use Rattle.core_steps.specs.Reads.{View}
use Rattle.core_steps.specs.Stands.{is_live_cell, value_in, ended_log, is_ended, items_below}

-- each other seat that was made was ended into this one
abbrev pub AreOthersEnded : View → Type 0
AreOthersEnded view = (n : ℕ) → 0 < n → n < view.made → is_ended view.ended n ≡ true

-- the log under a number: seat 0 has its own and those of the ended seats
abbrev pub log_in : View → ℕ → List Item
log_in view n = if n == 0 then view.log else ended_log view.ended n

-- the items of all logs
abbrev pub logs_in : View → List Item
logs_in view = items_below view.made (log_in view)

-- each number from 1 up to this count is that of a seat that was ended into seat 0
abbrev pub AreEndedBelow : ℕ → View → Type 0
AreEndedBelow passes view = (n : ℕ) → 0 < n → n < passes → is_ended view.ended n ≡ true

-- ---- the world

-- the five words of a player's record in a table
abbrev pub body_in : List ℕ → ℕ → List ℕ
body_in words slot = map (λ k. slice_index words (cell_index (Body slot k))) (0 ∷ 1 ∷ 2 ∷ 3 ∷ 4 ∷ [])

-- the state word of an id in a table
abbrev pub state_in : List ℕ → ℕ → ℕ
state_in words id = slice_index words (cell_index (State id))

-- the record that a table's words have in place of this one: a player's is decoded, another's has a new state
abbrev pub record_in : List ℕ → Rec → Rec
record_in words r =
    if nat_lt r.id 64 then record_from r.id (body_in words r.id) (state_in words r.id)
    else with_state r (state_in words r.id)

-- ---- a table that is closed

-- the items of all logs are those of a legal history, in each log the places rise, the words of each live record are
-- those of its run, and so is the record that the words have in place of the one at the start
pub record Closes (F : Fixed) (words : List ℕ) (view : View) : Type 0 where
  pub history : List Item
  pub now : World
  pub tied : now ≡ run F.effect_of F.start history
  pub legal : IsLegal F.effect_of F.start history
  pub items : IsPermutation history (logs_in view)
  pub rising : (n : ℕ) → n < view.made → IsStrictlyIncreasing (places_of (log_in view n))
  pub body : (slot k : ℕ) → slot < 64 → k < 5 → is_live_cell F (Body slot k) ≡ true
      → slice_index words (cell_index (Body slot k)) ≡ value_in now (Body slot k)
  pub state : (id : ℕ) → id < IDS → is_live_cell F (State id) ≡ true
      → slice_index words (cell_index (State id)) ≡ value_in now (State id)
  pub ids : now.ids ≡ F.start.ids
  pub entry : (id : ℕ) → has F.start.ids id ≡ true → IsEntry id (now.record_of id)
  pub taken : (id : ℕ) → has F.start.ids id ≡ true → F.takes (now.record_of id) ≡ true
  pub read : (id : ℕ) → has F.start.ids id ≡ true → record_in words (F.start.record_of id) ≡ now.record_of id

-- the items of all logs are those of a legal history, in each log the places rise, and the live records of the world are
-- those of the history's run, which the action takes
pub record ClosesInto (F : Fixed) (world : WorldView) (view : View) : Type 0 where
  pub history : List Item
  pub legal : IsLegal F.effect_of F.start history
  pub items : IsPermutation history (logs_in view)
  pub rising : (n : ℕ) → n < view.made → IsStrictlyIncreasing (places_of (log_in view n))
  pub run_is : IsWorldOf (run F.effect_of F.start history) (live_in world.records)
  pub taken : All (λ (r : Rec). F.takes r ≡ true) (live_in world.records)
