-- That a move ends where no solid overlaps the body.
use Rattle.std.proofs.Common.{◌≡◌, ℕ, zero, suc, Bool, false, inl, inr, List, ap, ◌∙◌, arith}
use Rattle.arena_geo.specs.declared.vec3.Vec3.{Vec3}
use Rattle.arena_geo.specs.Vectors.{plus}
use Rattle.arena_geo.specs.Bounds.{Bounds}
use Rattle.arena_geo.specs.Boxes.{box_moved_by, is_blocked}
use Rattle.box_trace.specs.Steps.{shift_at}
use Rattle.box_trace.specs.Traces.{IsFree, trace_of}
use Rattle.box_trace.proofs.Traces.{IsTrace-trace_of}
use Rattle.entity_recs.specs.Bodies.{body_of}
use Rattle.slide_move.specs.Slides.{slide_of}
use Rattle.slide_move.specs.Changes.{EndsFree}
use Rattle.slide_move.specs.Displacements.{displacement}
use Rattle.slide_move.proofs.Slides.{ends_free_along}
use Rattle.slide_move.proofs.Legs.{EndsFree-plus}
use Rattle.slide_move.proofs.Ways.{moved-zero_vector, shift_at-zero}
use Rattle.player_move.specs.declared.walk.Walked.{Walked}
use Rattle.player_move.specs.Velocities.{walks, velocity_after}
use Rattle.player_move.specs.Walks.{upwards, downwards, level, way_of, stairs_of, ground_of, walk_of}
use Rattle.player_move.specs.Moves.{move_of}
use Rattle.player_move.specs.Laws.{MoveEndsFree}
use Rattle.player_move.proofs.Reaching.{chosen}
use Rattle.player_move.proofs.WholeMoves.{standing-moved}

slide_ends_free : (body : Bounds) (vel : Vec3) (ms : ℕ) (solids : List Bounds) → EndsFree body (slide_of body vel ms solids).shift solids
unfolding slide_of
slide_ends_free body vel ms solids = ends_free_along 4 body vel (displacement vel ms) solids

steps_end_free : (body : Bounds) (way : Vec3) (solids : List Bounds) (k : ℕ) → IsFree body way solids k → EndsFree body (shift_at way k) solids
steps_end_free body way solids zero free = inl (shift_at-zero way)
steps_end_free body way solids (suc k) free = inr (free.free (suc k) (omega arith) (omega arith))

way_ends_free : (body : Bounds) (way : Vec3) (solids : List Bounds) → EndsFree body (way_of body way solids) solids
way_ends_free body way solids =
    steps_end_free body way solids (trace_of body way solids).steps (IsTrace-trace_of body way solids).free

stairs_end_free : (body : Bounds) (vel : Vec3) (ms : ℕ) (solids : List Bounds) → EndsFree body (stairs_of body vel ms solids).shift solids
unfolding stairs_of
stairs_end_free body vel ms solids =
    let steps = (trace_of body (upwards 4608) solids).steps in
    let up = shift_at (upwards 4608) steps in
    let along = slide_of (box_moved_by body up) (level vel) ms solids in
    let there = plus up along.shift in
    EndsFree-plus body there _ solids
    (EndsFree-plus body up along.shift solids (way_ends_free body (upwards 4608) solids) (slide_ends_free (box_moved_by body up) (level vel) ms solids))
    (way_ends_free (box_moved_by body there) (downwards steps) solids)

walk_ends_free : (walks : Bool) (body : Bounds) (vel : Vec3) (ms : ℕ) (solids : List Bounds) → EndsFree body (walk_of walks body vel ms solids).shift solids
unfolding walk_of
walk_ends_free walks body vel ms solids =
    let P : Walked → Type 0 = λ w. EndsFree body w.shift solids in
    chosen P _ _ _ (stairs_end_free body vel ms solids) (slide_ends_free body vel ms solids)

free_there : (body : Bounds) (shift : Vec3) (solids : List Bounds) → EndsFree body shift solids → is_blocked body solids ≡ false → is_blocked (box_moved_by body shift) solids ≡ false
free_there body shift solids (inl stays) free =
    ap (λ (s : Vec3). is_blocked (box_moved_by body s) solids) stays ∙ ap (λ (b : Bounds). is_blocked b solids) (moved-zero_vector body) ∙ free
free_there body shift solids (inr there) free = there

pub move_ends_free : MoveEndsFree
unfolding move_of
move_ends_free me cmd solids free =
    let on_ground = ground_of (body_of me) solids in
    let walk = walk_of (walks on_ground cmd) (body_of me) (velocity_after on_ground me cmd) cmd.ms solids in
    let ends = walk_ends_free (walks on_ground cmd) (body_of me) (velocity_after on_ground me cmd) cmd.ms solids in
    ap (λ (b : Bounds). is_blocked b solids) (standing-moved me.origin walk.shift me.mins me.maxs) ∙ free_there (body_of me) walk.shift solids ends free
