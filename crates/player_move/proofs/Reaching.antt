-- How far a move comes.
use Rattle.std.proofs.Common.{◌≡◌, ℕ, ◌*◌, ◌/◌, ◌≤◌, max, Bool, true, false, if◌then◌else◌, List, ℤ, pos, ◌+ℤ◌, ◌≤ℤ◌, unsigned_abs, sym, subst, arith}
use Rattle.std.proofs.lemmas.Nat.{mul-le}
use Rattle.std.proofs.lemmas.Int.{ints}
use Rattle.arena_geo.specs.declared.vec3.Vec3.{Vec3}
use Rattle.arena_geo.specs.Vectors.{IsNear, plus}
use Rattle.arena_geo.specs.Bounds.{Bounds, IsInRange}
use Rattle.arena_geo.specs.Boxes.{box_moved_by}
use Rattle.box_trace.specs.Steps.{step_count, shift_at}
use Rattle.box_trace.specs.Traces.{trace_of}
use Rattle.box_trace.proofs.Parts.{unsigned_abs-part_at}
use Rattle.box_trace.proofs.Traces.{IsTrace-trace_of}
use Rattle.slide_move.specs.Displacements.{distance, displacement}
use Rattle.slide_move.specs.Slides.{slide_of}
use Rattle.slide_move.specs.Changes.{IsPartOfWay}
use Rattle.slide_move.proofs.Ways.{IsPartOfWay-shift_at, IsNear-part}
use Rattle.slide_move.proofs.Slides.{shift_is_part}
use Rattle.player_move.specs.Ranges.{IsWithin}
use Rattle.player_move.proofs.Rooms.{IsNear-plus, IsInRange-moved, IsWithin-moved}
use Rattle.player_move.specs.declared.walk.Walked.{Walked}
use Rattle.player_move.specs.Walks.{upwards, downwards, level, way_of, stairs_of, walk_of}

-- ---- how far a velocity goes
distance_near : (speed : ℤ) (ms : ℕ) → unsigned_abs speed ≤ 512000 → ms ≤ 50 → unsigned_abs (distance speed ms) ≤ 25600
distance_near speed ms near most =
    let size = unsigned_abs-part_at 1000 ms speed in
    let product : unsigned_abs speed * ms ≤ 512000 * 50 = mul-le (unsigned_abs speed) ms 512000 50 near most in
    let quotient : unsigned_abs speed * ms / 1000 ≤ 25600 = omega arith in
    omega arith

pub IsNear-displacement : (vel : Vec3) (ms : ℕ) → IsNear 512000 vel → ms ≤ 50 → IsNear 25600 (displacement vel ms)
IsNear-displacement vel ms near most = record {
  x = distance_near vel.x ms near.x most;
  y = distance_near vel.y ms near.y most;
  z = distance_near vel.z ms near.z most;
}

distance_zero : (ms : ℕ) → unsigned_abs (distance (pos 0) ms) ≤ 0
distance_zero ms = let size = unsigned_abs-part_at 1000 ms (pos 0) in omega arith

-- ---- up and down
pub near_up : (rise up : Vec3) (steps : ℕ) → rise ≡ upwards 4608 → steps ≤ step_count rise → up ≡ shift_at rise steps → IsNear 4608 up
near_up rise up steps rise_is within up_is =
    let near : IsNear 4608 rise = rw rise_is (record { x = omega arith; y = omega arith; z = omega arith }) in
    let P : Vec3 → Type 0 = IsNear 4608 in
    subst P (sym up_is) (IsNear-part rise _ 4608 (IsPartOfWay-shift_at rise steps within) near)

near_downwards : (steps : ℕ) → steps ≤ 4608 → IsNear 4608 (downwards steps)
near_downwards steps few = record { x = omega (arith, ints); y = omega (arith, ints); z = omega (arith, ints) }

steps_of_rise : (rise : Vec3) (steps : ℕ) → rise ≡ upwards 4608 → steps ≤ step_count rise → steps ≤ 4608
steps_of_rise rise steps rise_is within =
    let P : Vec3 → Type 0 = λ v. steps ≤ step_count v in
    subst P rise_is within

pub near_fall : (rise fall : Vec3) (steps : ℕ) → rise ≡ upwards 4608 → steps ≤ step_count rise → fall ≡ downwards steps → IsNear 4608 fall
near_fall rise fall steps rise_is within fall_is =
    rw fall_is (near_downwards steps (steps_of_rise rise steps rise_is within))

pub near_down : (fall down : Vec3) (steps : ℕ) → IsNear 4608 fall → steps ≤ step_count fall → down ≡ shift_at fall steps → IsNear 4608 down
near_down fall down steps near within down_is =
    let P : Vec3 → Type 0 = IsNear 4608 in
    subst P (sym down_is) (IsNear-part fall _ 4608 (IsPartOfWay-shift_at fall steps within) near)

-- there is room for the slide above, for what comes of it, and for the way down
pub room_above : (body above : Bounds) (up flat vel : Vec3) (ms : ℕ) → above ≡ box_moved_by body up → IsNear 4608 up → flat ≡ level vel → IsNear 512000 vel → ms ≤ 50 → IsWithin 2000000 body → IsInRange (box_moved_by above (displacement flat ms))
room_above body above up flat vel ms above_is near_up flat_is near most room =
    let far : IsNear 25600 (displacement flat ms) = IsNear-displacement flat ms (rw flat_is (record { x = near.x; y = near.y; z = omega arith })) most in
    let within : IsWithin 2004608 above = rw above_is (IsWithin-moved 2000000 4608 2004608 body up (omega arith) room near_up) in
    IsInRange-moved 2004608 25600 above _ (omega arith) within far

pub near_along : (rise up along shift : Vec3) (steps : ℕ) → rise ≡ upwards 4608 → steps ≤ step_count rise → up ≡ shift_at rise steps → shift ≡ plus up along → IsNear 30000 along → IsNear 34608 shift
near_along rise up along shift steps rise_is within up_is shift_is far =
    let near : IsNear 4608 up = near_up rise up steps rise_is within up_is in
    rw shift_is (IsNear-plus 4608 30000 34608 up along (omega arith) near far)

pub room_there : (body there : Bounds) (shift fall : Vec3) → there ≡ box_moved_by body shift → IsNear 34608 shift → IsNear 4608 fall → IsWithin 2000000 body → IsInRange (box_moved_by there fall)
room_there body there shift fall there_is near low room =
    let within : IsWithin 2034608 there = rw there_is (IsWithin-moved 2000000 34608 2034608 body shift (omega arith) room near) in
    IsInRange-moved 2034608 4608 there fall (omega arith) within low

-- the part of a way that a trace finds free
way_is_part : (body : Bounds) (way : Vec3) (solids : List Bounds) → IsPartOfWay way (way_of body way solids)
way_is_part body way solids =
    let hit = trace_of body way solids in IsPartOfWay-shift_at way hit.steps (IsTrace-trace_of body way solids).within

-- ---- the stairs
-- on x and y no farther than the velocity goes in the open, and on z no farther than a step is high
pub record IsClimb (vel : Vec3) (ms : ℕ) (shift : Vec3) : Type 0 where
  pub x : unsigned_abs shift.x ≤ unsigned_abs (distance vel.x ms)
  pub y : unsigned_abs shift.y ≤ unsigned_abs (distance vel.y ms)
  pub z : unsigned_abs shift.z ≤ 4608

flat_sum : (a b c d : ℤ) → unsigned_abs a ≤ 0 → unsigned_abs b ≤ unsigned_abs d → unsigned_abs c ≤ 0 → unsigned_abs ((a +ℤ b) +ℤ c) ≤ unsigned_abs d
flat_sum a b c d none part nothing = omega (arith, ints)

tall_sum : (a b c : ℤ) (steps : ℕ) → pos 0 ≤ℤ a → unsigned_abs a ≤ 4608 → unsigned_abs b ≤ 0 → c ≤ℤ pos 0 → unsigned_abs c ≤ steps → steps ≤ 4608 → unsigned_abs ((a +ℤ b) +ℤ c) ≤ 4608
tall_sum a b c steps up high none down low few = omega (arith, ints)

pub climb_by_parts : (vel up along down : Vec3) (ms steps : ℕ) → steps ≤ 4608 → IsPartOfWay (upwards 4608) up → IsPartOfWay (displacement (level vel) ms) along → IsPartOfWay (downwards steps) down → IsClimb vel ms (plus (plus up along) down)
climb_by_parts vel up along down ms steps few p q r = record {
  x = flat_sum up.x along.x down.x (distance vel.x ms) (omega (arith, p.x.no_farther)) q.x.no_farther (omega (arith, r.x.no_farther));
  y = flat_sum up.y along.y down.y (distance vel.y ms) (omega (arith, p.y.no_farther)) q.y.no_farther (omega (arith, r.y.no_farther));
  z = tall_sum up.z along.z down.z steps (p.z.stays_positive (omega (arith, ints))) (omega (arith, p.z.no_farther)) (omega (arith, q.z.no_farther, distance_zero ms)) (r.z.stays_negative (omega (arith, ints))) (omega (arith, ints, r.z.no_farther)) few;
}

pub stairs_climb : (body : Bounds) (vel : Vec3) (ms : ℕ) (solids : List Bounds) → IsClimb vel ms (stairs_of body vel ms solids).shift
unfolding stairs_of
stairs_climb body vel ms solids =
    let steps = (trace_of body (upwards 4608) solids).steps in
    let within : steps ≤ 4608 = (IsTrace-trace_of body (upwards 4608) solids).within in
    let up = shift_at (upwards 4608) steps in
    let along = slide_of (box_moved_by body up) (level vel) ms solids in
    climb_by_parts vel up along.shift _ ms steps within (IsPartOfWay-shift_at (upwards 4608) steps within) (shift_is_part (box_moved_by body up) (level vel) ms solids) (way_is_part (box_moved_by body (plus up along.shift)) (downwards steps) solids)

-- ---- a walk
-- on x and y no farther than the velocity goes in the open, and on z no farther than that and a step's height
pub record IsWalk (vel : Vec3) (ms : ℕ) (shift : Vec3) : Type 0 where
  pub x : unsigned_abs shift.x ≤ unsigned_abs (distance vel.x ms)
  pub y : unsigned_abs shift.y ≤ unsigned_abs (distance vel.y ms)
  pub z : unsigned_abs shift.z ≤ max (unsigned_abs (distance vel.z ms)) 4608

IsWalk-climb : (vel shift : Vec3) (ms : ℕ) → IsClimb vel ms shift → IsWalk vel ms shift
IsWalk-climb vel shift ms climb = record { x = climb.x; y = climb.y; z = omega (arith, climb.z) }

IsWalk-slide : (vel shift : Vec3) (ms : ℕ) → IsPartOfWay (displacement vel ms) shift → IsWalk vel ms shift
IsWalk-slide vel shift ms part = record { x = part.x.no_farther; y = part.y.no_farther; z = omega (arith, part.z.no_farther) }

-- what holds of both holds of the one that is chosen
pub chosen : (P : Walked → Type 0) (b : Bool) (stairs plain : Walked) → P stairs → P plain → P (if b then stairs else plain)
chosen P true stairs plain p q = p
chosen P false stairs plain p q = q

pub walk_is_walk : (walks : Bool) (body : Bounds) (vel : Vec3) (ms : ℕ) (solids : List Bounds) → IsWalk vel ms (walk_of walks body vel ms solids).shift
unfolding walk_of
walk_is_walk walks body vel ms solids =
    let P : Walked → Type 0 = λ w. IsWalk vel ms w.shift in
    chosen P _ _ _
    (IsWalk-climb vel _ ms (stairs_climb body vel ms solids))
    (IsWalk-slide vel _ ms (shift_is_part body vel ms solids))

pub IsNear-walk : (vel shift : Vec3) (ms : ℕ) → IsWalk vel ms shift → IsNear 512000 vel → ms ≤ 50 → IsNear 25600 shift
IsNear-walk vel shift ms walk near most =
    let far = IsNear-displacement vel ms near most in
    record {
      x = omega (arith, walk.x, far.x);
      y = omega (arith, walk.y, far.y);
      z = omega (arith, walk.z, far.z);
    }

pub IsNear-stairs : (w : Walked) (body : Bounds) (vel : Vec3) (ms : ℕ) (solids : List Bounds) → w ≡ stairs_of body vel ms solids → IsNear 512000 vel → ms ≤ 50 → IsNear 25600 w.shift
IsNear-stairs w body vel ms solids is near most =
    let P : Walked → Type 0 = λ v. IsNear 25600 v.shift in
    subst P (sym is) (IsNear-walk vel _ ms (IsWalk-climb vel _ ms (stairs_climb body vel ms solids)) near most)

pub IsNear-slide : (vel shift : Vec3) (ms : ℕ) → IsPartOfWay (displacement vel ms) shift → IsNear 512000 vel → ms ≤ 50 → IsNear 25600 shift
IsNear-slide vel shift ms part near most = IsNear-part _ shift 25600 part (IsNear-displacement vel ms near most)
