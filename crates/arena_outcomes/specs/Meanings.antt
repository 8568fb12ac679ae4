-- What the actions of arenas mean.
use Rattle.entity_recs.specs.Actions.{Meaning}
use Rattle.arena_map.specs.Maps.{MapView}
use Rattle.arena_outcomes.specs.Outcomes.{outcome_in, shot_outcome, outcome_on}
use Rattle.arena_outcomes.specs.Regions.{region_in, shot_region, region_on}
use Rattle.arena_outcomes.specs.Takes.{takes}

-- without shots it takes the records of the map's kinds, moves within its regions, and does what its outcomes are
abbrev pub meaning_of : MapView → Meaning
meaning_of map = record { takes = takes map; region_of = region_in map; effect_of = outcome_in map }

-- with shots it takes the same records
abbrev pub shot_meaning_of : MapView → Meaning
shot_meaning_of map = record { takes = takes map; region_of = shot_region map; effect_of = shot_outcome map }

-- as the map decides
abbrev pub meaning_on : MapView → Meaning
meaning_on map = record { takes = takes map; region_of = region_on map; effect_of = outcome_on map }
