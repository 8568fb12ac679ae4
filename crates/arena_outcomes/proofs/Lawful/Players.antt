-- A player on a map stays one.
use Rattle.std.proofs.Common.{◌≡◌, Bool, true, false, ◌≤◌, ℤ, ◌≤ℤ◌, unsigned_abs, List, sym, subst, arith}
use Rattle.std.proofs.lemmas.Int.{ints}
use Rattle.arena_geo.specs.declared.vec3.Vec3.{Vec3}
use Rattle.arena_geo.specs.Vectors.{IsNear}
use Rattle.arena_geo.specs.Bounds.{Bounds}
use Rattle.arena_geo.specs.Boxes.{contains_on, contains}
use Rattle.arena_geo.proofs.Containment.{three_pass}
use Rattle.box_trace.specs.Walls.{HaveWalls}
use Rattle.box_trace.proofs.HavingWalls.{have_walls_first, have_walls_more}
use Rattle.entity_recs.specs.declared.kind.Kind.{Kind}
use Rattle.entity_recs.specs.declared.kind.Kind.TheVariants.{Player}
use Rattle.entity_recs.specs.declared.bodies.TheConstants.{PLAYER_MINS}
use Rattle.entity_recs.specs.declared.rec.Rec.{Rec}
use Rattle.entity_recs.specs.Records.{IsRecord, IsShapeOf}
use Rattle.entity_recs.specs.Bodies.{box_at_origin, player_body}
use Rattle.entity_recs.specs.Commands.{Command}
use Rattle.entity_recs.proofs.Standing.{records_have_boxes}
use Rattle.entity_recs.proofs.Ids.{player_shape}
use Rattle.player_move.specs.Moves.{move_of}
use Rattle.player_move.proofs.Insides.{move_stays_inside}
use Rattle.player_move.proofs.Slows.{move_stays_slow}
use Rattle.arena_map.specs.Maps.{MapView, IsMap}
use Rattle.trigger_rules.specs.Touching.{bodies_of_solids, solids_among}
use Rattle.trigger_rules.specs.Laws.{IsPlayerOn}
use Rattle.arena_outcomes.specs.Outcomes.{intent_of_command, flags_of, moved_among}
use Rattle.arena_outcomes.specs.Regions.{elsewhere}

near_on : (lo hi l h : ℤ) → unsigned_abs lo ≤ 1048576 → unsigned_abs hi ≤ 1048576 → contains_on lo hi l h ≡ true
    → (lo ≤ℤ l) × (h ≤ℤ hi)
near_on lo hi l h near_lo near_hi inside = (grind (arith, ints), grind (arith, ints))

-- a player whose body is inside an arena is near
pub near_inside : (arena : Bounds) (origin : Vec3) → IsNear 1048576 arena.lo → IsNear 1048576 arena.hi
    → contains arena (player_body origin) ≡ true → IsNear 1048576 origin
near_inside arena origin lo hi inside =
    let b = player_body origin in
    let t = three_pass _ _ _ inside in
    let x = near_on arena.lo.x arena.hi.x b.lo.x b.hi.x lo.x hi.x t.x in
    let y = near_on arena.lo.y arena.hi.y b.lo.y b.hi.y lo.y hi.y t.y in
    let z = near_on arena.lo.z arena.hi.z b.lo.z b.hi.z lo.z hi.z t.z in
    record {
      x = omega (arith, ints, x.0, x.1, lo.x, hi.x);
      y = omega (arith, ints, y.0, y.1, lo.y, hi.y);
      z = omega (arith, ints, z.0, z.1, lo.z, hi.z);
    }

near_of_shape : (arena : Bounds) (at mins maxs : Vec3) → IsNear 1048576 arena.lo → IsNear 1048576 arena.hi
    → IsShapeOf Player at mins maxs → contains arena (box_at_origin at mins maxs) ≡ true → IsNear 1048576 at
near_of_shape arena at mins maxs lo hi shape inside =
    let P : Vec3 → Type 0 = λ low. contains arena (box_at_origin at low maxs) ≡ true in
    let Q : Vec3 → Type 0 = λ high. contains arena (box_at_origin at PLAYER_MINS high) ≡ true in
    near_inside arena at lo hi (subst Q shape.high_is (subst P shape.low_is inside))

flags_are_low : (ground : Bool) → flags_of ground ≤ 3
flags_are_low true = omega arith
flags_are_low false = omega arith

-- the solids of a map and of records have the walls of the arena
pub solids_have_walls : (map : MapView) (near : List Rec) → HaveWalls map.bounds (solids_among map near)
unfolding solids_among
solids_have_walls map near =
    have_walls_more map.bounds _ (bodies_of_solids near) (have_walls_first map.bounds map.blocks)

-- a player on a map is one after its move
pub moved_stays_on : (map : MapView) (me : Rec) (near : List Rec) (c : Command) → IsMap map → IsPlayerOn map me
    → IsPlayerOn map (moved_among map me near c)
unfolding moved_among
moved_stays_on map me near c is_map is =
    let solids = solids_among map near in
    let moved = move_of me (intent_of_command c) solids in
    let shape = player_shape me is.is_record is.kind in
    let inside : contains map.bounds (box_at_origin moved.origin me.mins me.maxs) ≡ true =
    move_stays_inside map.bounds me (intent_of_command c) solids (records_have_boxes me is.is_record).body.ordered (solids_have_walls map near) is.inside in
    let there : IsShapeOf Player moved.origin me.mins me.maxs =
    record { low_is = shape.low_is; high_is = shape.high_is } in
    record {
      kind = is.kind;
      is_record = record {
        id = is.is_record.id;
        origin = near_of_shape map.bounds moved.origin me.mins me.maxs is_map.lo is_map.hi there inside;
        shape = subst (λ (k : Kind). IsShapeOf k moved.origin me.mins me.maxs) (sym is.kind) there;
        vel = move_stays_slow me (intent_of_command c) solids;
        flags = flags_are_low moved.ground;
        ammo = is.is_record.ammo;
        carry = is.is_record.carry;
      };
      score = is.score;
      inside = inside;
    }

-- a player elsewhere is within its bounds
pub elsewhere_is_record : (me : Rec) (origin : Vec3) → IsRecord me → me.kind ≡ Player → IsNear 1048576 origin
    → IsRecord (elsewhere me origin)
elsewhere_is_record me origin is kind near =
    let shape = player_shape me is kind in
    let there : IsShapeOf Player origin me.mins me.maxs = record { low_is = shape.low_is; high_is = shape.high_is } in
    record {
      id = is.id;
      origin = near;
      shape = subst (λ (k : Kind). IsShapeOf k origin me.mins me.maxs) (sym kind) there;
      vel = is.vel;
      flags = is.flags;
      ammo = is.ammo;
      carry = is.carry;
    }
