-- Which records the action of an arena takes: those of the worlds that are valid for its map, whatever their state.
use Rattle.std.specs.Prelude.{ℕ, ◌==◌, ◌&&◌, Bool, false, nat_lt, nat_le, Option, Some, None}
use Rattle.std.specs.Prelude.{int_le, ◌+ℤ◌}
use Rattle.std.specs.List.{find}
use Rattle.std.specs.Ordering.{int_eq}
use Rattle.arena_geo.specs.Boxes.{contains}
use Rattle.arena_geo.specs.Vectors.{is_near, is_same_vector}
use Rattle.entity_recs.specs.declared.bodies.TheConstants.{PLAYER_MINS, PLAYER_MAXS}
use Rattle.entity_recs.specs.declared.kind.Kind.{Kind}
use Rattle.entity_recs.specs.declared.kind.Kind.TheVariants as kinds
use Rattle.entity_recs.specs.declared.rec.Rec.{Rec}
use Rattle.entity_recs.specs.Bodies.{body_of}
use Rattle.entity_recs.specs.Kinds.{number_of}
use Rattle.arena_map.specs.declared.lift.Lift.{Lift}
use Rattle.arena_map.specs.Maps.{MapView, entities_of, lift_of}

-- the numbers of a record are within their bounds and of their types
abbrev pub has_numbers : Rec → Bool
has_numbers r =
    is_near 1048576 r.origin && is_near 512000 r.vel && nat_le r.flags 3 && nat_le r.ammo 100 && nat_le r.carry 8
    && nat_lt r.score 4294967296 && nat_lt r.seq 4294967296

-- the record has the shape of another, of the same kind
abbrev pub has_shape_of : Rec → Rec → Bool
has_shape_of thing r =
    (number_of r.kind == number_of thing.kind) && is_same_vector r.mins thing.mins && is_same_vector r.maxs thing.maxs

-- the record is that of a player in a slot, inside the arena
abbrev pub is_player : MapView → Rec → Bool
is_player map r =
    nat_lt r.id 64 && is_same_vector r.mins PLAYER_MINS && is_same_vector r.maxs PLAYER_MAXS
    && contains map.bounds (body_of r)

-- the record is a thing's, at its place
abbrev pub is_thing : Option Rec → Rec → Bool
is_thing None r = false
is_thing (Some thing) r = has_shape_of thing r && is_same_vector r.origin thing.origin

-- the record is that of a lift between its lowest place and its highest
abbrev pub is_lift : Option Lift → Option Rec → Rec → Bool
is_lift None thing r = false
is_lift (Some lift) None r = false
is_lift (Some lift) (Some thing) r =
    has_shape_of thing r && int_eq r.origin.x thing.origin.x && int_eq r.origin.y thing.origin.y
    && int_le lift.low r.origin.z && int_le r.origin.z (lift.low +ℤ lift.rise)

-- the thing of the map with an id
abbrev pub thing_with : MapView → ℕ → Option Rec
thing_with map id = find (λ thing. thing.id == id) (entities_of map)

-- a record of this kind is one of those of a map
abbrev pub is_one_of : Kind → MapView → Rec → Bool
is_one_of kinds.Player map r = is_player map r
is_one_of kinds.Lift map r = is_lift (lift_of map r.id) (thing_with map r.id) r
is_one_of _ map r = is_thing (thing_with map r.id) r

-- the record is one of a world that is valid for the map, whatever its state
unfoldable pub takes : MapView → Rec → Bool
takes map r = has_numbers r && is_one_of r.kind map r
