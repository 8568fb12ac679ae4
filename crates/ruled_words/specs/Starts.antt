-- The world that a table begins with, as histories see it.
use Rattle.std.specs.Prelude.{◌≡◌, ℕ, ◌<◌, true, List, [], if◌then◌else◌, length, map, slice_index}
use Rattle.std.specs.Prelude.{Option, Some, None}
use Rattle.std.specs.List.{range_with_len}
use Rattle.core_steps.specs.declared.sizes.TheConstants.{TABLE_WORDS}
use Rattle.entity_recs.specs.Actions.{Meaning}
use Rattle.entity_recs.specs.Worlds.{World, zero_vector, world_of}
use Rattle.world_tree.specs.Live.{live_in}
use Rattle.world_tree.specs.Worlds.{WorldView}
use Rattle.core_steps.specs.Cells.{word_at}
use Rattle.core_steps.specs.Nodes.{Fixed, home}
use Rattle.core_steps.specs.Stands.{is_player, start_words}
use Rattle.core_seats.specs.Shown.{RulesView, fixed_of}

-- the world of the live records
abbrev pub world_at_start : WorldView → World
world_at_start world = world_of (live_in world.records)

-- the rules of a table: its action, and the tree and the live records of the world at the start
abbrev pub rules_of : {A : Type 0} → A → WorldView → RulesView A
rules_of action world = record { action = action; tree = world.tree; start = live_in world.records }

-- what doesn't change, of an action with this meaning, and of the world at the start
abbrev pub fixed_by : {A : Type 0} → (A → Meaning) → A → WorldView → Fixed
fixed_by meaning action world = fixed_of meaning (rules_of action world)

-- in place of what doesn't change, where no step is picked
abbrev pub nothing_fixed : Fixed
nothing_fixed = record {
  takes = λ r. true;
  region_of = λ me c. [];
  effect_of = λ me near c. record { me = me; states = []; reply = record { origin = me.origin; got = [] } };
  tree = record { depth = 4; bounds = record { lo = zero_vector; hi = zero_vector } };
  start = world_of [];
}

-- the tree and the world at the start, of an action that doesn't matter
abbrev pub fixed_of_world : WorldView → Fixed
fixed_of_world world = record nothing_fixed { tree = world.tree; start = world_at_start world }

-- the node at which the player of this slot is linked, where it is live
abbrev pub home_of : WorldView → ℕ → Option ℕ
home_of world slot =
    if is_player (fixed_of_world world) slot
    then Some (home (fixed_of_world world) ((world_at_start world).record_of slot))
    else None

-- the words of the table at the start, in the flat table
abbrev pub start_word_at : WorldView → ℕ → ℕ
start_word_at world index = word_at (start_words (fixed_of_world world)) index

-- the words of the table at the start before this index
abbrev pub first_words : WorldView → ℕ → List ℕ
first_words world n = map (start_word_at world) (range_with_len 0 n)

-- the words of the world, each at its index
pub record AreStartWords (world : WorldView) (words : List ℕ) : Type 0 where
  pub count : length words ≡ TABLE_WORDS
  pub each : (index : ℕ) → index < TABLE_WORDS → slice_index words index ≡ start_word_at world index
