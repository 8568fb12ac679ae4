-- What an edge is made of.
use Rattle.std.proofs.Common.{◌≡◌, ℕ, ℤ, ◌+ℤ◌, ◌-ℤ◌, unsigned_abs, lit≤, ◌<◌, ◌≤◌, Bool, true, false, ◌&&◌, nat_lt, nat_le, cond, List, length, Option, Some, None, slice_get, refl, sym, arith}
use Rattle.std.specs.Ordering.{int_eq}
use Rattle.std.specs.Option.{option_and_then}
use Rattle.std.proofs.lemmas.Bool.{leb-true, ltb-true}
use Rattle.std.proofs.lemmas.Int.{ints}
use Rattle.std.proofs.lemmas.Option.{none-some, same_Some, slice_get_within}
use Rattle.arena_geo.specs.declared.vec3.Vec3.{Vec3}
use Rattle.arena_geo.specs.Vectors.{IsNear, plus, minus}
use Rattle.arena_geo.specs.Bounds.{Bounds, IsInRange}
use Rattle.arena_geo.specs.Boxes.{box_moved_by}
use Rattle.entity_recs.specs.declared.bodies.TheConstants.{PLAYER_MINS, PLAYER_MAXS}
use Rattle.entity_recs.specs.Bodies.{player_body}
use Rattle.arena_map.specs.Maps.{MapView, solids_of}
use Rattle.bot_ways.specs.Edges.{distance, is_free, edge_between, edge}

-- the points between which an edge leads
pub record HasEnds (map : MapView) (u v step : ℕ) : Type 0 where
  pub from : Vec3
  pub to : Vec3
  pub from_is : slice_get map.spawns u ≡ Some from
  pub to_is : slice_get map.spawns v ≡ Some to
  pub between : edge_between (solids_of map) from to ≡ Some step

ends_at : (map : MapView) (u v step : ℕ) (a b : Option Vec3) → slice_get map.spawns u ≡ a → slice_get map.spawns v ≡ b
    → option_and_then (λ from. option_and_then (edge_between (solids_of map) from) b) a ≡ Some step → HasEnds map u v step
ends_at map u v step None b p q h = absurd (none-some step h)
ends_at map u v step (Some from) None p q h = absurd (none-some step h)
ends_at map u v step (Some from) (Some to) p q h = record { from = from; to = to; from_is = p; to_is = q; between = h }

pub ends_of : (map : MapView) (u v step : ℕ) → edge map u v ≡ Some step → HasEnds map u v step
ends_of map u v step h = ends_at map u v step (slice_get map.spawns u) (slice_get map.spawns v) refl refl h

-- the edge between waypoints at these points
pub edge_at : (map : MapView) (u v : ℕ) (from to : Vec3) → slice_get map.spawns u ≡ Some from → slice_get map.spawns v ≡ Some to
    → edge map u v ≡ edge_between (solids_of map) from to
edge_at map u v from to p q = rw (p, q) refl

-- a length is 1 to 65,536
pub record IsStep (d step : ℕ) : Type 0 where
  pub same : d ≡ step
  pub least : 0 < step
  pub most : step ≤ 65536

chosen : (level apart short free : Bool) (d step : ℕ) → apart ≡ nat_lt 0 d → short ≡ nat_le d 65536
    → cond (level && apart && short && free) (Some d) None ≡ Some step → IsStep d step
chosen false apart short free d step p q h = absurd (none-some step h)
chosen true false short free d step p q h = absurd (none-some step h)
chosen true true false free d step p q h = absurd (none-some step h)
chosen true true true false d step p q h = absurd (none-some step h)
chosen true true true true d step p q h =
    let same = same_Some d step h in
    let least = ltb-true 0 d (sym p) in
    let most = leb-true d 65536 (sym q) in
    record { same = same; least = omega arith; most = omega arith }

pub step_between : (solids : List Bounds) (a b : Vec3) (step : ℕ) → edge_between solids a b ≡ Some step → IsStep (distance a b) step
step_between solids a b step h =
    chosen (int_eq a.z b.z) (nat_lt 0 (distance a b)) (nat_le (distance a b) 65536) (is_free solids a b) (distance a b) step refl refl h

pub edge_least : (map : MapView) (u v step : ℕ) → edge map u v ≡ Some step → 0 < step
edge_least map u v step h =
    let ends = ends_of map u v step h in (step_between (solids_of map) ends.from ends.to step ends.between).least

pub edge_most : (map : MapView) (u v step : ℕ) → edge map u v ≡ Some step → step ≤ 65536
edge_most map u v step h =
    let ends = ends_of map u v step h in (step_between (solids_of map) ends.from ends.to step ends.between).most

pub from_within : (map : MapView) (u v step : ℕ) → edge map u v ≡ Some step → u < length map.spawns
from_within map u v step h =
    let ends = ends_of map u v step h in slice_get_within map.spawns u ends.from ends.from_is

pub to_within : (map : MapView) (u v step : ℕ) → edge map u v ≡ Some step → v < length map.spawns
to_within map u v step h =
    let ends = ends_of map u v step h in slice_get_within map.spawns v ends.to ends.to_is

-- ---- the way of a trace between two points

on_axis : (a b m : ℤ) → unsigned_abs b ≤ 1048576 → unsigned_abs m ≤ 8192 → unsigned_abs ((a +ℤ m) +ℤ (b -ℤ a)) ≤ 2097152
on_axis a b m far body = grind (arith, ints)

at_end : (a b m : Vec3) → IsNear 1048576 b → IsNear 8192 m → IsNear 2097152 (plus (plus a m) (minus b a))
at_end a b m far body = record {
  x = on_axis a.x b.x m.x far.x body.x;
  y = on_axis a.y b.y m.y far.y body.y;
  z = on_axis a.z b.z m.z far.z body.z;
}

-- a body at one point that is moved to another is in range
pub end_in_range : (a b : Vec3) → IsNear 1048576 b → IsInRange (box_moved_by (player_body a) (minus b a))
end_in_range a b far = record {
  lo = at_end a b PLAYER_MINS far (record { x = lit≤ tt; y = lit≤ tt; z = lit≤ tt });
  hi = at_end a b PLAYER_MAXS far (record { x = lit≤ tt; y = lit≤ tt; z = lit≤ tt });
}
