-- Moves that are run one after another, and their history. All definitions are for any outcome of one move.
use Rattle.std.specs.Prelude.{◌≡◌, ℕ, ◌+◌, ◌==◌, List, [], ◌∷◌, ◌++◌, length, map, if◌then◌else◌}
use Rattle.entity_recs.specs.declared.rec.Rec.{Rec}
use Rattle.entity_recs.specs.Records.{with_state}
use Rattle.entity_recs.specs.declared.effect.NewState.{NewState}
use Rattle.entity_recs.specs.declared.effect.Effect.{Effect}
use Rattle.entity_recs.specs.declared.effect.Entry.{Entry}
use Rattle.entity_recs.specs.Commands.{Command}
use Rattle.entity_recs.specs.Worlds.{World, others_of}

-- what a move does, of the player's record, all other live records in rising id, and the command
abbrev pub Action : Type 0
Action = Rec → List Rec → Command → Effect

-- the outcome of a command in a world
abbrev pub outcome : Action → World → Command → Effect
outcome act w c = act (w.record_of c.slot) (others_of w c.slot) c

-- the record of this id with its state from the list, where it is listed
abbrev pub with_new_state : List NewState → ℕ → Rec → Rec
with_new_state [] id r = r
with_new_state (s ∷ states) id r = if s.id == id then with_state r s.state else with_new_state states id r

-- the world with the player's record and the listed states from an effect
-- A map over all live records and then the player, so that the world after an effect computes, and no fact that ids
-- are distinct is needed.
abbrev pub with_effect : World → ℕ → Effect → World
with_effect w slot e =
    record { ids = w.ids; record_of = λ id. if id == slot then e.me else with_new_state e.states id (w.record_of id) }

-- the world after a command
abbrev pub apply : Action → World → Command → World
apply act w c = with_effect w c.slot (outcome act w c)

-- the world after commands, one after another
abbrev pub world_after : Action → World → List Command → World
world_after act w [] = w
world_after act w (c ∷ commands) = world_after act (apply act w c) commands

-- a command and its entry
pub record Item : Type 0 where
  pub command : Command
  pub entry : Entry

-- the commands of a history
abbrev pub commands_of : List Item → List Command
commands_of items = map (λ item. item.command) items

-- the places of a history's entries
abbrev pub places_of : List Item → List ℕ
places_of items = map (λ item. item.entry.place) items

-- the world after a history
abbrev pub run : Action → World → List Item → World
run act w history = world_after act w (map (λ item. item.command) history)

-- the entry of a command at this place, with this effect
abbrev pub entry_of : ℕ → Command → Effect → Entry
entry_of place c e = record { place = place; slot = c.slot; seq = c.seq; reply = e.reply }

-- a legal history: each entry has its place, its command's slot and number, and the reply of the outcome in the run of
-- the items before it
pub record IsLegal (act : Action) (w : World) (history : List Item) : Type 0 where
  pub each : (before : List Item) (item : Item) (later : List Item) → history ≡ before ++ item ∷ later
      → item.entry ≡ entry_of (length before) item.command (outcome act (run act w before) item.command)

-- the entries of commands that are run in this order, the first of which has this place
abbrev pub entries_in_order : Action → World → ℕ → List Command → List Entry
entries_in_order act w place [] = []
entries_in_order act w place (c ∷ commands) =
    entry_of place c (outcome act w c) ∷ entries_in_order act (apply act w c) (place + 1) commands
