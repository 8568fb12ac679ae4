-- That a body inside the arena moves inside it.
use Rattle.std.proofs.Common.{◌≡◌, ℕ, Bool, true, List, sym, subst, arith}
use Rattle.arena_geo.specs.declared.vec3.Vec3.{Vec3}
use Rattle.arena_geo.specs.Vectors.{plus}
use Rattle.arena_geo.specs.Bounds.{Bounds, IsOrdered}
use Rattle.arena_geo.specs.Boxes.{contains, box_moved_by}
use Rattle.arena_geo.proofs.Ranges.{IsOrdered-moved}
use Rattle.box_trace.specs.Steps.{shift_at}
use Rattle.box_trace.specs.Traces.{trace_of}
use Rattle.box_trace.specs.Walls.{HaveWalls}
use Rattle.box_trace.proofs.Insides.{trace_stays_inside}
use Rattle.entity_recs.specs.Bodies.{body_of}
use Rattle.slide_move.specs.Slides.{slide_of}
use Rattle.slide_move.proofs.Insides.{slide_stays_inside}
use Rattle.slide_move.proofs.Ways.{moved-moved}
use Rattle.player_move.specs.declared.walk.Walked.{Walked}
use Rattle.player_move.specs.Velocities.{walks, velocity_after}
use Rattle.player_move.specs.Walks.{upwards, downwards, level, way_of, stairs_of, ground_of, walk_of}
use Rattle.player_move.specs.Moves.{move_of}
use Rattle.player_move.specs.Laws.{MoveStaysInside}
use Rattle.player_move.proofs.Reaching.{chosen}
use Rattle.player_move.proofs.WholeMoves.{standing-moved}

module _ (arena : Bounds) (solids : List Bounds) (have : HaveWalls arena solids) where
  -- inside, moved so far
  IsInside : Bounds → Vec3 → Type 0
  IsInside body shift = contains arena (box_moved_by body shift) ≡ true

  way_stays_inside : (body : Bounds) (way : Vec3) → IsOrdered body → contains arena body ≡ true → IsInside body (way_of body way solids)
  unfolding IsInside
  way_stays_inside body way ordered inside =
      trace_stays_inside arena body way solids ordered have inside (trace_of body way solids).steps (omega arith)

  slide_ends_inside : (body : Bounds) (vel : Vec3) (ms : ℕ) → IsOrdered body → contains arena body ≡ true → IsInside body (slide_of body vel ms solids).shift
  unfolding IsInside
  slide_ends_inside body vel ms ordered inside =
      (slide_stays_inside arena body vel ms solids ordered have inside).at_end

  -- one shift that ends inside, and then another
  then_inside : (body : Bounds) (first next : Vec3) → IsInside (box_moved_by body first) next → IsInside body (plus first next)
  unfolding IsInside
  then_inside body first next inside =
      let P : Bounds → Type 0 = λ b. contains arena b ≡ true in
      subst P (moved-moved body first next) inside

  stairs_end_inside : (body : Bounds) (vel : Vec3) (ms : ℕ) → IsOrdered body → contains arena body ≡ true → IsInside body (stairs_of body vel ms solids).shift
  unfolding stairs_of IsInside
  stairs_end_inside body vel ms ordered inside =
      let steps = (trace_of body (upwards 4608) solids).steps in
      let up = shift_at (upwards 4608) steps in
      let above = box_moved_by body up in
      let along = slide_of above (level vel) ms solids in
      let first = way_stays_inside body (upwards 4608) ordered inside in
      let second = slide_ends_inside above (level vel) ms (IsOrdered-moved body up ordered) first in
      let shift = plus up along.shift in
      let there = then_inside body up along.shift second in
      then_inside body shift _ (way_stays_inside (box_moved_by body shift) (downwards steps) (IsOrdered-moved body shift ordered) there)

  walk_ends_inside : (walks : Bool) (body : Bounds) (vel : Vec3) (ms : ℕ) → IsOrdered body → contains arena body ≡ true → IsInside body (walk_of walks body vel ms solids).shift
  unfolding walk_of
  walk_ends_inside walks body vel ms ordered inside =
      let P : Walked → Type 0 = λ w. IsInside body w.shift in
      chosen P _ _ _ (stairs_end_inside body vel ms ordered inside) (slide_ends_inside body vel ms ordered inside)

  pub move_ends_inside : (walks : Bool) (body : Bounds) (vel : Vec3) (ms : ℕ) → IsOrdered body → contains arena body ≡ true → contains arena (box_moved_by body (walk_of walks body vel ms solids).shift) ≡ true
  unfolding IsInside
  move_ends_inside walks body vel ms ordered inside = walk_ends_inside walks body vel ms ordered inside

pub move_stays_inside : MoveStaysInside
unfolding move_of
move_stays_inside arena me cmd solids ordered have inside =
    let on_ground = ground_of (body_of me) solids in
    let vel = velocity_after on_ground me cmd in
    let walk = walk_of (walks on_ground cmd) (body_of me) vel cmd.ms solids in
    let P : Bounds → Type 0 = λ b. contains arena b ≡ true in
    subst P (sym (standing-moved me.origin walk.shift me.mins me.maxs)) (move_ends_inside arena solids have (walks on_ground cmd) (body_of me) vel cmd.ms ordered inside)
