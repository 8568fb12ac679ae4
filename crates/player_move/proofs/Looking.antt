-- That a move looks no farther than its reach.
use Rattle.std.proofs.Common.{◌≡◌, ℕ, ◌+◌, ◌≤◌, Bool, true, ◌&&◌, if◌then◌else◌, List, ℤ, pos, ◌+ℤ◌, ◌-ℤ◌, unsigned_abs, sym, ap, ◌∙◌, subst, arith}
use Rattle.std.proofs.lemmas.Int.{ints}
use Rattle.arena_geo.specs.declared.vec3.Vec3.{Vec3}
use Rattle.arena_geo.specs.Vectors.{plus, zero_vector}
use Rattle.arena_geo.specs.Bounds.{Bounds}
use Rattle.arena_geo.specs.Boxes.{contains_on, contains, box_grown_by, box_moved_by}
use Rattle.arena_geo.proofs.Containment.{all_three}
use Rattle.arena_geo.proofs.Vectors.{plus-zero_vector}
use Rattle.box_trace.specs.Steps.{shift_at}
use Rattle.box_trace.specs.Traces.{trace_of}
use Rattle.box_trace.proofs.Traces.{IsTrace-trace_of}
use Rattle.entity_recs.specs.Bodies.{body_of}
use Rattle.slide_move.specs.declared.slid.Slid.{Slid}
use Rattle.slide_move.specs.Displacements.{distance, displacement}
use Rattle.slide_move.specs.Slides.{slide_of}
use Rattle.slide_move.specs.Changes.{IsPartOfWay}
use Rattle.slide_move.proofs.Ways.{moved-moved, IsPartOfWay-zero_vector, IsPartOfWay-shift_at}
use Rattle.slide_move.proofs.Slides.{shift_is_part}
use Rattle.player_move.specs.declared.walk.Walked.{Walked}
use Rattle.player_move.specs.Velocities.{walks, velocity_after}
use Rattle.player_move.specs.Walks.{upwards, downwards, level, stairs_of, goes_farther, ground_of, walk_of}
use Rattle.player_move.specs.Moves.{moved_by, move_of}
use Rattle.player_move.specs.Laws.{reach_on, looked_at, MoveLooksWithin}
use Rattle.player_move.proofs.Agreeing.{Agree, Agree-filter, Stays, same_steps, same_slide}
use Rattle.player_move.proofs.Reaching.{IsClimb, climb_by_parts, stairs_climb}
use Rattle.player_move.proofs.Walking.{plain_of}
use Rattle.player_move.proofs.Speeds.{velocity_is_fast}
use Rattle.player_move.proofs.WholeMoves.{distance_le}

contains_on-moved : (lo hi shift : ℤ) (by : ℕ) → unsigned_abs shift ≤ by → contains_on (lo -ℤ pos by) (hi +ℤ pos by) (lo +ℤ shift) (hi +ℤ shift) ≡ true
contains_on-moved lo hi shift by near = grind (arith, ints)

module _ (body : Bounds) (x y z : ℕ) where
  -- the body, larger by so much on each axis
  region : Bounds
  region = box_grown_by body (record { x = pos x; y = pos y; z = pos z })

  -- a body that is moved no farther lies in it
  inside : (shift : Vec3) → unsigned_abs shift.x ≤ x → unsigned_abs shift.y ≤ y → unsigned_abs shift.z ≤ z → contains region (box_moved_by body shift) ≡ true
  unfolding region
  inside shift x_near y_near z_near =
      all_three (contains_on-moved body.lo.x body.hi.x shift.x x x_near) (contains_on-moved body.lo.y body.hi.y shift.y y y_near) (contains_on-moved body.lo.z body.hi.z shift.z z z_near)

  inside_then : (first next : Vec3) → contains region (box_moved_by body (plus first next)) ≡ true → contains region (box_moved_by (box_moved_by body first) next) ≡ true
  inside_then first next there =
      let P : Bounds → Type 0 = λ b. contains region b ≡ true in
      subst P (sym (moved-moved body first next)) there

  module _ (vel : Vec3) (ms : ℕ) (x_far : unsigned_abs (distance vel.x ms) ≤ x) (y_far : unsigned_abs (distance vel.y ms) ≤ y) (z_far : unsigned_abs (distance vel.z ms) ≤ z) (tall : 4609 ≤ z) where
    inside_climb : (shift : Vec3) → IsClimb vel ms shift → contains region (box_moved_by body shift) ≡ true
    inside_climb shift climb =
        inside shift (omega (arith, climb.x)) (omega (arith, climb.y)) (omega (arith, climb.z))

    -- a climb and then the ground test
    below_climb : (shift : Vec3) → IsClimb vel ms shift → contains region (box_moved_by (box_moved_by body shift) (downwards 1)) ≡ true
    below_climb shift climb =
        inside_then shift (downwards 1) (inside _ (omega (arith, ints, climb.x)) (omega (arith, ints, climb.y)) (omega (arith, ints, climb.z)))

    stays_plain : Stays region body (displacement vel ms)
    stays_plain = record {
      inside = λ shift part.
          inside shift (omega (arith, part.x.no_farther)) (omega (arith, part.y.no_farther)) (omega (arith, part.z.no_farther));
    }

    stays_up : Stays region body (upwards 4608)
    stays_up = record {
      inside = λ shift part.
          inside shift (omega (arith, part.x.no_farther)) (omega (arith, part.y.no_farther)) (omega (arith, part.z.no_farther));
    }

    climb_along : (up along : Vec3) → IsPartOfWay (upwards 4608) up → IsPartOfWay (displacement (level vel) ms) along → IsClimb vel ms (plus up along)
    climb_along up along p q =
        let P : Vec3 → Type 0 = IsClimb vel ms in
        subst P (plus-zero_vector (plus up along)) (climb_by_parts vel up along zero_vector ms 0 (omega arith) p q (IsPartOfWay-zero_vector _))

    stays_along : (up : Vec3) → IsPartOfWay (upwards 4608) up → Stays region (box_moved_by body up) (displacement (level vel) ms)
    stays_along up p = record { inside = λ along q. inside_then up along (inside_climb _ (climb_along up along p q)) }

    stays_down : (up along : Vec3) (steps : ℕ) → steps ≤ 4608 → IsPartOfWay (upwards 4608) up → IsPartOfWay (displacement (level vel) ms) along → Stays region (box_moved_by body (plus up along)) (downwards steps)
    stays_down up along steps few p q = record {
      inside = λ down r. inside_then (plus up along) down (inside_climb _ (climb_by_parts vel up along down ms steps few p q r));
    }

    module _ (solids others : List Bounds) (agree : Agree region solids others) where
      -- the stairs that come so far up, along and down
      finish : ℕ → Slid → ℕ → Walked
      finish steps along down =
          record {
            shift = plus (plus (shift_at (upwards 4608) steps) along.shift) (shift_at (downwards steps) down);
            vel = level along.vel;
          }

      along_at : ℕ → List Bounds → Slid
      along_at steps list = slide_of (box_moved_by body (shift_at (upwards 4608) steps)) (level vel) ms list

      down_at : ℕ → Slid → List Bounds → ℕ
      down_at steps along list =
          (trace_of (box_moved_by body (plus (shift_at (upwards 4608) steps) along.shift)) (downwards steps) list).steps

      same_stairs : stairs_of body vel ms solids ≡ stairs_of body vel ms others
      unfolding stairs_of finish along_at down_at
      same_stairs =
          let steps = (trace_of body (upwards 4608) solids).steps in
          let few : steps ≤ 4608 = (IsTrace-trace_of body (upwards 4608) solids).within in
          let up = shift_at (upwards 4608) steps in
          let rises = IsPartOfWay-shift_at (upwards 4608) steps few in
          let along = along_at steps solids in
          let goes = shift_is_part (box_moved_by body up) (level vel) ms solids in
          ap (λ (down : ℕ). finish steps along down) (same_steps region (box_moved_by body (plus up along.shift)) (downwards steps) solids others agree (stays_down up along.shift steps few rises goes))
          ∙ ap (λ (a : Slid). finish steps a (down_at steps a others)) (same_slide region (box_moved_by body up) (level vel) ms solids others agree (stays_along up rises))
          ∙ ap (λ (n : ℕ). finish n (along_at n others) (down_at n (along_at n others) others)) (same_steps region body (upwards 4608) solids others agree stays_up)

      same_ground : (b : Bounds) → contains region (box_moved_by b (downwards 1)) ≡ true → ground_of b solids ≡ ground_of b others
      unfolding ground_of
      same_ground b there = agree.blocked (box_moved_by b (downwards 1)) there

      -- a walk of these parts
      walk_by : Bool → Slid → Walked → Bool → Walked
      walk_by walks plain stairs stands =
          if walks && plain.side && (goes_farther stairs.shift plain.shift && stands) then stairs else plain_of plain

      same_walk : (walks : Bool) → walk_of walks body vel ms solids ≡ walk_of walks body vel ms others
      unfolding walk_of walk_by
      same_walk walks =
          let plain = slide_of body vel ms solids in
          let stairs = stairs_of body vel ms solids in
          ap (walk_by walks plain stairs) (same_ground (box_moved_by body stairs.shift) (below_climb stairs.shift (stairs_climb body vel ms solids)))
          ∙ ap (λ (w : Walked). walk_by walks plain w (ground_of (box_moved_by body w.shift) others)) same_stairs
          ∙ ap (λ (p : Slid). walk_by walks p (stairs_of body vel ms others) (ground_of (box_moved_by body (stairs_of body vel ms others).shift) others)) (same_slide region body vel ms solids others agree stays_plain)

  pub walks_alike : (vel : Vec3) (ms : ℕ) (solids others : List Bounds) → unsigned_abs (distance vel.x ms) ≤ x → unsigned_abs (distance vel.y ms) ≤ y → unsigned_abs (distance vel.z ms) ≤ z → 4609 ≤ z → Agree (box_grown_by body (record { x = pos x; y = pos y; z = pos z })) solids others → (walks : Bool) → walk_of walks body vel ms solids ≡ walk_of walks body vel ms others
  unfolding region
  walks_alike vel ms solids others x_far y_far z_far tall agree walks =
      same_walk vel ms x_far y_far z_far tall solids others agree walks

  pub stands_alike : (solids others : List Bounds) → 1 ≤ z → Agree (box_grown_by body (record { x = pos x; y = pos y; z = pos z })) solids others → ground_of body solids ≡ ground_of body others
  unfolding region ground_of
  stands_alike solids others tall agree =
      agree.blocked (box_moved_by body (downwards 1)) (inside (downwards 1) (omega arith) (omega arith) (omega arith))

pub move_looks_within : MoveLooksWithin
unfolding move_of
move_looks_within me cmd solids others brief same =
    let body = body_of me in
    let x = reach_on me.vel.x cmd.ms in
    let y = reach_on me.vel.y cmd.ms in
    let z = reach_on me.vel.z cmd.ms + 4609 in
    let agree = Agree-filter (looked_at me cmd.ms) solids others same in
    let on_ground = ground_of body solids in
    let vel = velocity_after on_ground me cmd in
    let fast = velocity_is_fast on_ground me cmd brief in
    let z_far : unsigned_abs (distance vel.z cmd.ms) ≤ z = omega (arith, distance_le vel.z cmd.ms _ fast.z) in
    ap (λ (w : Walked). moved_by me.origin w on_ground) (walks_alike body x y z vel cmd.ms solids others (distance_le vel.x cmd.ms _ fast.x) (distance_le vel.y cmd.ms _ fast.y) z_far (omega arith) agree (walks on_ground cmd))
    ∙ ap (λ (g : Bool). moved_by me.origin (walk_of (walks g cmd) body (velocity_after g me cmd) cmd.ms others) g) (stands_alike body x y z solids others (omega arith) agree)
