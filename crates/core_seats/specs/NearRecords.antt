-- What was loaded of the records at the start, one record at a time.
use Rattle.std.specs.Prelude.{ℕ, ◌==◌, nat_lt, nat_le, ◌&&◌, Bool, if◌then◌else◌, List, Option, Some, None}
use Rattle.arena_geo.specs.Bounds.{Bounds}
use Rattle.arena_geo.specs.Regions.{touches_region}
use Rattle.entity_recs.specs.declared.rec.Rec.{Rec}
use Rattle.entity_recs.specs.declared.effect.NewState.{NewState}
use Rattle.entity_recs.specs.Bodies.{abs_of}
use Rattle.core_steps.specs.Reads.{PlayerRead, player_at, player_of, state_at, thing_of}

-- a thing of the map whose absolute box touches a region
abbrev pub is_touched_thing : List Bounds → Rec → Bool
is_touched_thing region r = nat_le 64 r.id && touches_region (abs_of r) region

-- the record as it was loaded, where it was
abbrev pub loaded_of : List PlayerRead → List NewState → Rec → Option Rec
loaded_of others states r =
    if nat_lt r.id 64 then player_of r.id (player_at others r.id) else thing_of r (state_at states r.id)

-- the record, if there is one and its absolute box touches a region
abbrev pub touching_one : List Bounds → Option Rec → Option Rec
touching_one region None = None
touching_one region (Some r) = if touches_region (abs_of r) region then Some r else None

-- the record as it was loaded, where it was, isn't that of this player, and touches a region
abbrev pub near_one : List Bounds → ℕ → List PlayerRead → List NewState → Rec → Option Rec
near_one region slot others states r =
    if r.id == slot then None else touching_one region (loaded_of others states r)
