-- The action of a map means what its map says.
use Rattle.std.proofs.Common.{◌≡◌, cond}
use Rattle.std.proofs.Props.{props}
use Rattle.arena_map.specs.Maps.{IsMap}
use Rattle.arena_outcomes.specs.Outcomes.{outcome_in, shot_outcome}
use Rattle.arena_outcomes.specs.Regions.{region_in, shot_region}
use Rattle.arena_outcomes.specs.Takes.{takes}
use Rattle.arena_outcomes.specs.Meanings.{meaning_on}
use Rattle.arena_actions.specs.declared.map_action.MapAction.{MapAction}
use Rattle.arena_actions.specs.declared.map_action.MapAction.TheVariants.{Plain, Shots}
use Rattle.arena_actions.specs.MapActions.{map_in, meaning_in, IsOfItsMap}

-- where players shoot in it exactly if its map says so, it means what its map says
pub means_its_map : (action : MapAction) → IsOfItsMap action → meaning_in action ≡ meaning_on (map_in action)
means_its_map (Plain action) is = λ i. record {
  takes = takes action.map;
  region_of = cond (is i) (shot_region action.map) (region_in action.map);
  effect_of = cond (is i) (shot_outcome action.map) (outcome_in action.map);
}
means_its_map (Shots action) is = λ i. record {
  takes = takes action.arena.map;
  region_of = cond (is i) (shot_region action.arena.map) (region_in action.arena.map);
  effect_of = cond (is i) (shot_outcome action.arena.map) (outcome_in action.arena.map);
}

-- the map keeps its rules
pub keeps_rules : (action : MapAction) → IsMap (map_in action)
keeps_rules (Plain action) = action.is_map
keeps_rules (Shots action) = action.arena.is_map

-- a type can keep it
pub IsOfItsMap-prop : (action : MapAction) → IsProp (IsOfItsMap action)
IsOfItsMap-prop action = hlevel props
