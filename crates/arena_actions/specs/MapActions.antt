-- The action of a map, which is that of an arena with shots or without.
use Rattle.std.specs.Prelude.{◌≡◌, Bool, true, false}
use Rattle.entity_recs.specs.Actions.{Meaning}
use Rattle.arena_map.specs.Maps.{MapView}
use Rattle.arena_outcomes.specs.Meanings.{meaning_of, shot_meaning_of}
use Rattle.arena_actions.specs.declared.map_action.MapAction.{MapAction}
use Rattle.arena_actions.specs.declared.map_action.MapAction.TheVariants.{Plain, Shots}

-- its map
abbrev pub map_in : MapAction → MapView
map_in (Plain action) = action.map
map_in (Shots action) = action.arena.map

-- what it means
abbrev pub meaning_in : MapAction → Meaning
meaning_in (Plain action) = meaning_of action.map
meaning_in (Shots action) = shot_meaning_of action.arena.map

-- players shoot in it
abbrev pub has_shots : MapAction → Bool
has_shots (Plain action) = false
has_shots (Shots action) = true

-- players shoot in it exactly where its map says so
abbrev pub IsOfItsMap : MapAction → Type 0
IsOfItsMap action = has_shots action ≡ (map_in action).shots

-- the action is that of this map
pub record IsActionOf (map : MapView) (action : MapAction) : Type 0 where
  pub map_is : map_in action ≡ map
  pub of_its_map : IsOfItsMap action
