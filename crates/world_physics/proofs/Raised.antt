-- A player that is raised stays inside the arena, where the walls don't stop it.
use Rattle.std.proofs.Common.{◌≡◌, ℕ, ◌≤◌, Bool, true, false, ◌||◌, List, ◌++◌, ℤ, pos, neg_ℤ, ◌+ℤ◌, ◌-ℤ◌, ◌≤ℤ◌, int_le, unsigned_abs, refl, sym, ap, ◌∙◌, subst, inl, inr, arith}
use Rattle.std.proofs.lemmas.Int.{ints}
use Rattle.std.proofs.lemmas.Bool.{cases_Bool, both_ways}
use Rattle.std.specs.Cmp.Derive.{both_true}
use Rattle.std.specs.List.{list_any}
use Rattle.arena_geo.specs.declared.vec3.Vec3.{Vec3}
use Rattle.arena_geo.specs.Bounds.{Bounds, bounds, IsOrdered}
use Rattle.arena_geo.specs.Boxes.{overlaps_on, overlaps, contains_on, contains, box_moved_by, is_blocked}
use Rattle.arena_geo.proofs.Containment.{ThreePass, three_pass, all_three}
use Rattle.box_trace.specs.Walls.{low, high, with_x, with_y, with_z, walls_of}
use Rattle.entity_recs.specs.declared.kind.Kind.{Kind}
use Rattle.entity_recs.specs.declared.kind.Kind.TheVariants.{Player}
use Rattle.entity_recs.specs.declared.rec.Rec.{Rec}
use Rattle.entity_recs.specs.Records.{IsShapeOf}
use Rattle.entity_recs.specs.Bodies.{body_of}
use Rattle.entity_recs.proofs.Standing.{shape_is_roomy}
use Rattle.entity_recs.proofs.Ids.{player_shape}
use Rattle.arena_map.specs.Positions.{upwards}
use Rattle.arena_map.specs.Maps.{MapView, IsMap, solids_of}
use Rattle.arena_map.specs.Validity.{IsValidRecord}
use Rattle.world_physics.specs.LiftSteps.{record_raised_by}

-- ---- boxes

-- the body of a raised record is the body, so far higher
level : (at by : ℤ) → at +ℤ by ≡ (at +ℤ by) +ℤ pos 0
level at by = omega (arith, ints)

higher : (at up by : ℤ) → (at +ℤ up) +ℤ by ≡ (at +ℤ by) +ℤ up
higher at up by = omega (arith, ints)

pub raised-body : (r : Rec) (up : ℤ) → body_of (record_raised_by r up) ≡ box_moved_by (body_of r) (upwards up)
raised-body r up = λ i. record {
  lo = record { x = level r.origin.x r.mins.x i; y = level r.origin.y r.mins.y i; z = higher r.origin.z up r.mins.z i };
  hi = record { x = level r.origin.x r.maxs.x i; y = level r.origin.y r.maxs.y i; z = higher r.origin.z up r.maxs.z i };
}

-- ---- the walls below and above

across : (lo hi l h : ℤ) → contains_on lo hi l h ≡ true → l ≤ℤ h → overlaps_on (l +ℤ pos 0) (h +ℤ pos 0) (lo -ℤ pos 16384) (hi +ℤ pos 16384) ≡ true
across lo hi l h inside ordered = grind (arith, ints)

stays_level : (lo hi l h : ℤ) → contains_on lo hi l h ≡ true → contains_on lo hi (l +ℤ pos 0) (h +ℤ pos 0) ≡ true
stays_level lo hi l h inside = grind (arith, ints)

under : (lo hi l h up : ℤ) → contains_on lo hi l h ≡ true → l ≤ℤ h → unsigned_abs up ≤ 2560 → int_le lo (l +ℤ up) ≡ false
    → overlaps_on (l +ℤ up) (h +ℤ up) (lo -ℤ pos 16384) lo ≡ true
under lo hi l h up inside ordered far out = grind (arith, ints)

over : (lo hi l h up : ℤ) → contains_on lo hi l h ≡ true → l ≤ℤ h → unsigned_abs up ≤ 2560 → int_le (h +ℤ up) hi ≡ false
    → overlaps_on (l +ℤ up) (h +ℤ up) hi (hi +ℤ pos 16384) ≡ true
over lo hi l h up inside ordered far out = grind (arith, ints)

fifth : (a b c d e f : Bool) → e ≡ true → (a || (b || (c || (d || (e || f))))) ≡ true
fifth true b c d e f h = refl
fifth false true c d e f h = refl
fifth false false true d e f h = refl
fifth false false false true e f h = refl
fifth false false false false true f h = refl
fifth false false false false false f h = cc

sixth : (a b c d e f g : Bool) → f ≡ true → (a || (b || (c || (d || (e || (f || g)))))) ≡ true
sixth true b c d e f g h = refl
sixth false true c d e f g h = refl
sixth false false true d e f g h = refl
sixth false false false true e f g h = refl
sixth false false false false true f g h = refl
sixth false false false false false f g h = ap (λ b. b || g) h

-- what a wall below or above the arena overlaps is blocked
module _ (arena b : Bounds) (blocks : List Bounds) where
  abbrev low_x : Bool
  low_x = overlaps b (bounds (low arena) (with_x (high arena) arena.lo))

  abbrev high_x : Bool
  high_x = overlaps b (bounds (with_x (low arena) arena.hi) (high arena))

  abbrev low_y : Bool
  low_y = overlaps b (bounds (low arena) (with_y (high arena) arena.lo))

  abbrev high_y : Bool
  high_y = overlaps b (bounds (with_y (low arena) arena.hi) (high arena))

  abbrev low_z : Bool
  low_z = overlaps b (bounds (low arena) (with_z (high arena) arena.lo))

  abbrev high_z : Bool
  high_z = overlaps b (bounds (with_z (low arena) arena.hi) (high arena))

  low_wall : low_z ≡ true → is_blocked b (walls_of arena ++ blocks) ≡ true
  low_wall h = fifth low_x high_x low_y high_y low_z (high_z || list_any (overlaps b) blocks) h

  high_wall : high_z ≡ true → is_blocked b (walls_of arena ++ blocks) ≡ true
  high_wall h = sixth low_x high_x low_y high_y low_z high_z (list_any (overlaps b) blocks) h

-- the axes of a contained box
pub inside_parts : (a b : Bounds) → contains a b ≡ true
    → ThreePass (contains_on a.lo.x a.hi.x b.lo.x b.hi.x) (contains_on a.lo.y a.hi.y b.lo.y b.hi.y) (contains_on a.lo.z a.hi.z b.lo.z b.hi.z)
inside_parts a b h = three_pass (contains_on a.lo.x a.hi.x b.lo.x b.hi.x) (contains_on a.lo.y a.hi.y b.lo.y b.hi.y) (contains_on a.lo.z a.hi.z b.lo.z b.hi.z) h

-- a body inside the arena is inside it after a step that no wall stops
still_inside : (arena body : Bounds) (up : ℤ) (blocks : List Bounds) → contains arena body ≡ true → IsOrdered body → unsigned_abs up ≤ 2560
    → is_blocked (box_moved_by body (upwards up)) (walls_of arena ++ blocks) ≡ false → contains arena (box_moved_by body (upwards up)) ≡ true
still_inside arena body up blocks inside ordered far free =
    let t = inside_parts arena body inside in
    let there = box_moved_by body (upwards up) in
    let over_x = across arena.lo.x arena.hi.x body.lo.x body.hi.x t.x ordered.x in
    let over_y = across arena.lo.y arena.hi.y body.lo.y body.hi.y t.y ordered.y in
    let not_under : int_le arena.lo.z (body.lo.z +ℤ up) ≡ true = elim (cases_Bool (int_le arena.lo.z (body.lo.z +ℤ up))) [
      | inl is ↦ is
      | inr out ↦
          absurd (both_ways _ free (low_wall arena there blocks (all_three over_x over_y (under arena.lo.z arena.hi.z body.lo.z body.hi.z up t.z ordered.z far out))))
    ] in
    let not_over : int_le (body.hi.z +ℤ up) arena.hi.z ≡ true = elim (cases_Bool (int_le (body.hi.z +ℤ up) arena.hi.z)) [
      | inl is ↦ is
      | inr out ↦
          absurd (both_ways _ free (high_wall arena there blocks (all_three over_x over_y (over arena.lo.z arena.hi.z body.lo.z body.hi.z up t.z ordered.z far out))))
    ] in
    all_three (stays_level arena.lo.x arena.hi.x body.lo.x body.hi.x t.x) (stays_level arena.lo.y arena.hi.y body.lo.y body.hi.y t.y) (both_true not_under not_over)

-- ---- players

near_on : (lo hi at mins maxs : ℤ) → unsigned_abs lo ≤ 1048576 → unsigned_abs hi ≤ 1048576 → mins ≡ neg_ℤ (pos 6144) → maxs ≡ pos 8192
    → contains_on lo hi (at +ℤ mins) (at +ℤ maxs) ≡ true → unsigned_abs at ≤ 1048576
near_on lo hi at mins maxs near_lo near_hi m n inside = grind (arith, ints)

-- the record of a player, raised so that no wall and no block stops it, is valid
pub raised_is_valid : (map : MapView) (id : ℕ) (r : Rec) (up : ℤ) → IsMap map → IsValidRecord map id r → r.kind ≡ Player → unsigned_abs up ≤ 2560
    → is_blocked (box_moved_by (body_of r) (upwards up)) (solids_of map) ≡ false → IsValidRecord map id (record_raised_by r up)
raised_is_valid map id r up is_map valid kind far free =
    let is = valid.is_record in
    let shape = player_shape r is kind in
    let ordered = (shape_is_roomy r.kind r.origin r.mins r.maxs is.origin is.shape).ordered in
    let inside : contains map.bounds (body_of (record_raised_by r up)) ≡ true =
    ap (contains map.bounds) (raised-body r up) ∙ still_inside map.bounds (body_of r) up map.blocks (valid.inside kind) ordered far free in
    let origin = is.origin in
    let mins_z : r.mins.z ≡ neg_ℤ (pos 6144) = ap (λ (v : Vec3). v.z) shape.low_is in
    let maxs_z : r.maxs.z ≡ pos 8192 = ap (λ (v : Vec3). v.z) shape.high_is in
    let there : IsShapeOf Player (record_raised_by r up).origin r.mins r.maxs = record { low_is = shape.low_is; high_is = shape.high_is } in
    record {
      is_record = record {
        id = is.id;
        origin = record {
          x = origin.x;
          y = origin.y;
          z = near_on map.bounds.lo.z map.bounds.hi.z (r.origin.z +ℤ up) r.mins.z r.maxs.z is_map.lo.z is_map.hi.z mins_z maxs_z (inside_parts map.bounds (body_of (record_raised_by r up)) inside).z;
        };
        shape = let Q : Kind → Type 0 = λ k. IsShapeOf k (record_raised_by r up).origin r.mins r.maxs in subst Q (sym kind) there;
        vel = is.vel;
        flags = is.flags;
        ammo = is.ammo;
        carry = is.carry;
      };
      own_id = valid.own_id;
      state = valid.state;
      inside = λ _. inside;
    }
