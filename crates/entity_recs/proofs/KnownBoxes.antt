-- The boxes of records, in numbers.
use Rattle.std.proofs.Common.{◌≡◌, ◌≢◌, inl, inr, refl, ap}
use Rattle.arena_geo.specs.declared.vec3.Vec3.{Vec3}
use Rattle.arena_geo.specs.Vectors.{zero_vector, plus}
use Rattle.arena_geo.specs.Bounds.{Bounds, bounds}
use Rattle.arena_geo.specs.Boxes.{box_grown_by}
use Rattle.arena_geo.proofs.Vectors.{plus-zero_vector}
use Rattle.entity_recs.specs.declared.kind.Kind.{Kind}
use Rattle.entity_recs.specs.declared.kind.Kind.TheVariants.{Player, Ammo, Gem, Teleporter, Goal, Lift}
use Rattle.entity_recs.specs.declared.bodies.TheConstants.{PLAYER_MINS, PLAYER_MAXS, ITEM_MAXS, GROWTH, ITEM_GROWTH}
use Rattle.entity_recs.specs.Records.{HasCorners, IsShapeOf}
use Rattle.entity_recs.specs.Bodies.{box_at_origin, growth_of, body_of}
use Rattle.entity_recs.specs.Laws.{IsItem, IsLargerBy, BoxesAreKnown}

-- ---- absolute boxes
item_growth : (kind : Kind) → IsItem kind → growth_of kind ≡ ITEM_GROWTH
item_growth kind (inl is) = ap growth_of is
item_growth kind (inr is) = ap growth_of is

other_growth : (kind : Kind) → kind ≢ Ammo → kind ≢ Gem → growth_of kind ≡ GROWTH
other_growth Player not_ammo not_gem = refl
other_growth Ammo not_ammo not_gem = absurd (not_ammo refl)
other_growth Gem not_ammo not_gem = absurd (not_gem refl)
other_growth Teleporter not_ammo not_gem = refl
other_growth Goal not_ammo not_gem = refl
other_growth Lift not_ammo not_gem = refl

grown_by : (b : Bounds) (growth by : Vec3) → growth ≡ by → IsLargerBy by (box_grown_by b growth) b
grown_by b growth by is = rw is (record { low = refl; high = refl })

-- ---- bodies

at_corners : (origin mins maxs low high : Vec3) → HasCorners low high mins maxs
    → box_at_origin origin mins maxs ≡ bounds (plus origin low) (plus origin high)
at_corners origin mins maxs low high are = rw (are.low_is, are.high_is) refl

from_origin : (origin mins maxs high : Vec3) → mins ≡ zero_vector → maxs ≡ high
    → box_at_origin origin mins maxs ≡ bounds origin (plus origin high)
from_origin origin mins maxs high low_is high_is =
    rw (low_is, high_is) (ap (λ (v : Vec3). bounds v (plus origin high)) (plus-zero_vector origin))

player_corners : (kind : Kind) (origin mins maxs : Vec3) → kind ≡ Player → IsShapeOf kind origin mins maxs
    → HasCorners PLAYER_MINS PLAYER_MAXS mins maxs
player_corners Player origin mins maxs is shape = shape
player_corners Ammo origin mins maxs is shape = cc
player_corners Gem origin mins maxs is shape = cc
player_corners Teleporter origin mins maxs is shape = cc
player_corners Goal origin mins maxs is shape = cc
player_corners Lift origin mins maxs is shape = cc

item_body : (kind : Kind) (origin mins maxs : Vec3) → IsItem kind → IsShapeOf kind origin mins maxs
    → box_at_origin origin mins maxs ≡ bounds origin (plus origin ITEM_MAXS)
item_body Player origin mins maxs (inl is) shape = cc
item_body Player origin mins maxs (inr is) shape = cc
item_body Ammo origin mins maxs is shape = from_origin origin mins maxs ITEM_MAXS shape.low_is shape.high_is
item_body Gem origin mins maxs is shape = from_origin origin mins maxs ITEM_MAXS shape.low_is shape.high_is
item_body Teleporter origin mins maxs (inl is) shape = cc
item_body Teleporter origin mins maxs (inr is) shape = cc
item_body Goal origin mins maxs (inl is) shape = cc
item_body Goal origin mins maxs (inr is) shape = cc
item_body Lift origin mins maxs (inl is) shape = cc
item_body Lift origin mins maxs (inr is) shape = cc

other_body : (kind : Kind) (origin mins maxs : Vec3) → kind ≢ Player → kind ≢ Ammo → kind ≢ Gem
    → IsShapeOf kind origin mins maxs → box_at_origin origin mins maxs ≡ bounds origin (plus origin maxs)
other_body Player origin mins maxs not_player not_ammo not_gem shape = absurd (not_player refl)
other_body Ammo origin mins maxs not_player not_ammo not_gem shape = absurd (not_ammo refl)
other_body Gem origin mins maxs not_player not_ammo not_gem shape = absurd (not_gem refl)
other_body Teleporter origin mins maxs not_player not_ammo not_gem shape = from_origin origin mins maxs maxs shape.low_is refl
other_body Goal origin mins maxs not_player not_ammo not_gem shape = from_origin origin mins maxs maxs shape.low_is refl
other_body Lift origin mins maxs not_player not_ammo not_gem shape = from_origin origin mins maxs maxs shape.low_is refl

pub boxes_are_known : BoxesAreKnown
boxes_are_known = record {
  abs = λ r. record {
    item = λ is. grown_by (body_of r) (growth_of r.kind) _ (item_growth r.kind is);
    other = λ not_ammo not_gem. grown_by (body_of r) (growth_of r.kind) _ (other_growth r.kind not_ammo not_gem);
  };
  body = λ r within. record {
    player = λ is. at_corners r.origin r.mins r.maxs _ _ (player_corners r.kind r.origin r.mins r.maxs is within.shape);
    item = λ is. item_body r.kind r.origin r.mins r.maxs is within.shape;
    other = λ not_player not_ammo not_gem. other_body r.kind r.origin r.mins r.maxs not_player not_ammo not_gem within.shape;
  };
}
