-- Moves, one after another, over records by id.
use Rattle.std.specs.Prelude.{◌≡◌, ℕ, ◌<◌, ◌^◌, List, length, Option, is_some, IsSome, slice_set, Some}
use Rattle.std.specs.Prelude.{map as map_list}
use Rattle.std.specs.Option.{option_map}
use Rattle.entity_recs.specs.declared.rec.Rec.{Rec}
use Rattle.entity_recs.specs.declared.effect.Effect.{Effect}
use Rattle.entity_recs.specs.declared.effect.NewState.{NewState}
use Rattle.entity_recs.specs.Commands.{Command}
use Rattle.entity_recs.specs.Worlds.{World}
use Rattle.entity_recs.specs.Histories.{outcome, world_after, with_new_state}
use Rattle.arena_map.specs.Maps.{MapView}
use Rattle.arena_map.specs.Validity.{IsValidWorld}
use Rattle.arena_outcomes.specs.Outcomes.{outcome_on}
use Rattle.world_tree.specs.Live.{record_at}
use Rattle.plain_server.specs.RecordsById.{world_of, records_in}

-- the command is that of a live player
pub record HasLivePlayer (records : List (Option Rec)) (c : Command) : Type 0 where
  pub slot : c.slot < 64
  pub live : IsSome (record_at records c.slot)

-- the number of a command has 32 bits
abbrev pub HasSmallNumber : Command → Type 0
HasSmallNumber c = c.seq < 2 ^ 32

-- what a command does among these records
abbrev pub effect_among : MapView → List (Option Rec) → Command → Effect
effect_among map records c = outcome (outcome_on map) (world_of records) c

-- the live records, each with its state from the list, where it is listed
abbrev pub with_new_states : List NewState → List (Option Rec) → List (Option Rec)
with_new_states states records = map_list (option_map (λ (r : Rec). with_new_state states r.id r)) records

-- the records after an effect: the player's at its slot, and the listed states
abbrev pub records_with : List (Option Rec) → ℕ → Effect → List (Option Rec)
records_with records slot e = slice_set (with_new_states e.states records) slot (Some e.me)

-- the records after a command
abbrev pub records_after : MapView → List (Option Rec) → Command → List (Option Rec)
records_after map records c = records_with records c.slot (effect_among map records c)

-- the new records are the old ones after these commands, one after another: they make the world that the commands
-- leave, the same ids are live, and they are those of a valid world
pub record HaveMoved (map : MapView) (old new : List (Option Rec)) (commands : List Command) : Type 0 where
  pub world : world_of new ≡ world_after (outcome_on map) (world_of old) commands
  pub given : (w : World) → records_in w new ≡ records_in w old
  pub live : (id : ℕ) → is_some (record_at new id) ≡ is_some (record_at old id)
  pub count : length new ≡ length old
  pub valid : IsValidWorld map new
