-- That what a command does in an arena is lawful.
pub mod Growing
pub mod Inside
pub mod Players
pub mod Moves
pub mod Landings
pub mod Taking
pub mod Worlds
pub mod Valid
pub mod Reached
pub mod Local
pub mod Footprint
pub mod Shots
use Rattle.std.proofs.Common.{arith}
use Rattle.arena_map.specs.Maps.{MapView, IsMap}
use Rattle.entity_recs.specs.Actions.{HasValidity, HasLocality, HasFootprint}
use Rattle.arena_outcomes.specs.Outcomes.{outcome_in, shot_outcome}
use Rattle.arena_outcomes.specs.declared.sizes.TheConstants.{ROOM}
use Rattle.arena_outcomes.specs.Regions.{region_in, shot_region}
use Rattle.arena_outcomes.specs.Takes.{takes}
use Rattle.arena_outcomes.proofs.Lawful.Valid.{is_valid}
use Rattle.arena_outcomes.proofs.Lawful.Local.{is_local}
use Rattle.arena_outcomes.proofs.Lawful.Footprint.{has_footprint}
use Rattle.arena_outcomes.proofs.Lawful.Shots.{shots_valid, shots_local, shots_footprint}

-- a move leaves its player a record that is taken
pub outcome_is_valid : (map : MapView) → IsMap map → HasValidity (takes map) (outcome_in map)
outcome_is_valid map is = is_valid map is

-- a move sees only what touches its region
pub outcome_is_local : (map : MapView) → IsMap map → HasLocality (takes map) (region_in map) (outcome_in map)
outcome_is_local map is = is_local ROOM map is

-- a move changes only what lies in its region
pub outcome_stays_within : (map : MapView) → IsMap map → HasFootprint (takes map) (region_in map) (outcome_in map)
outcome_stays_within map is = has_footprint ROOM (omega arith) (omega arith) map is

-- with shots a move leaves its player a record that is taken too
pub shots_are_valid : (map : MapView) → IsMap map → HasValidity (takes map) (shot_outcome map)
shots_are_valid map is = shots_valid map is

-- and sees only what touches its region
pub shots_are_local : (map : MapView) → IsMap map → HasLocality (takes map) (shot_region map) (shot_outcome map)
shots_are_local map is = shots_local map is

-- and changes only what lies in its region
pub shots_stay_within : (map : MapView) → IsMap map → HasFootprint (takes map) (shot_region map) (shot_outcome map)
shots_stay_within map is = shots_footprint map is
