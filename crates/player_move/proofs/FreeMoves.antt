-- Moves of which the whole way is free.
use Rattle.std.proofs.Common.{◌≡◌, ℕ, zero, suc, ◌%◌, ◌<◌, Bool, true, false, if◌then◌else◌, List, ℤ, pos, refl, sym, ap, subst, ◌∙◌, arith}
use Rattle.std.specs.Prelude.{◌&&◌, ◌==◌}
use Rattle.std.proofs.lemmas.Bool.{eq-eqb, ne_eqb}
use Rattle.arena_geo.specs.declared.vec3.Vec3.{Vec3}
use Rattle.arena_geo.specs.Vectors.{plus, vector}
use Rattle.arena_geo.specs.Bounds.{Bounds}
use Rattle.slide_move.specs.declared.slid.Slid.{Slid}
use Rattle.slide_move.specs.Slides.{slide_of}
use Rattle.slide_move.specs.Laws.{GoesFreely}
use Rattle.slide_move.specs.FreeWays.{way_in}
use Rattle.slide_move.proofs.Hits.{free_slide_goes_all}
use Rattle.entity_recs.specs.declared.rec.Rec.{Rec}
use Rattle.entity_recs.specs.Bodies.{body_of}
use Rattle.speed_rules.specs.Rules.{velocity_of}
use Rattle.speed_rules.specs.Together.{IsSlowed}
use Rattle.speed_rules.proofs.Together.{heights_are_known, fliers_keep_their_course, walkers_are_slowed}
use Rattle.player_move.specs.declared.walk.Walked.{Walked}
use Rattle.player_move.specs.Intents.{Intent}
use Rattle.player_move.specs.Velocities.{jumps, walks, velocity_after}
use Rattle.player_move.specs.Walks.{ground_of, are_taken, stairs_of, walk_of}
use Rattle.player_move.specs.Moves.{moved_by, move_of}
use Rattle.player_move.specs.FreeMoves.{GoesAt, GoesFreelyAt, FreeMovesGoByTheRules, WishesNothing, FreePlayersFall, FreePlayersJump, FreePlayersSlowDown}
use Rattle.player_move.proofs.Walking.{plain_of}

-- ---- the slide
-- without a side no stairs are taken
not_taken : (walking side taken : Bool) → side ≡ false → (walking && side && taken) ≡ false
not_taken true side taken is = rw is refl
not_taken false side taken is = refl

slides_without_side : (walking : Bool) (body : Bounds) (vel : Vec3) (ms : ℕ) (solids : List Bounds) → (slide_of body vel ms solids).side ≡ false
    → walk_of walking body vel ms solids ≡ plain_of (slide_of body vel ms solids)
unfolding walk_of
slides_without_side walking body vel ms solids is =
    let plain = slide_of body vel ms solids in
    let stairs = stairs_of body vel ms solids in
    ap (λ (b : Bool). if b then stairs else plain_of plain) (not_taken walking plain.side (are_taken body stairs.shift plain.shift solids) is)

goes_by_slide : (me : Rec) (vel : Vec3) (ms : ℕ) (slid : Slid) (ground : Bool) → GoesFreely (way_in vel ms) vel slid → GoesAt vel ms me (moved_by me.origin (plain_of slid) ground)
goes_by_slide me vel ms slid ground free = record {
  x = ap (λ (w : Vec3). (plus me.origin w).x) free.shift;
  y = ap (λ (w : Vec3). (plus me.origin w).y) free.shift;
  z = ap (λ (w : Vec3). (plus me.origin w).z) free.shift;
  vel_is = free.vel_is;
}

free_move : (me : Rec) (cmd : Intent) (solids : List Bounds) (vel : Vec3) → velocity_after (ground_of (body_of me) solids) me cmd ≡ vel → GoesFreelyAt vel me cmd solids
unfolding move_of
free_move me cmd solids vel vel_is free =
    let ground = ground_of (body_of me) solids in
    let goes = free_slide_goes_all (body_of me) vel cmd.ms solids free in
    let walk_is : walk_of (walks ground cmd) (body_of me) (velocity_after ground me cmd) cmd.ms solids ≡ plain_of (slide_of (body_of me) vel cmd.ms solids) =
    ap (λ (v : Vec3). walk_of (walks ground cmd) (body_of me) v cmd.ms solids) vel_is
    ∙ slides_without_side (walks ground cmd) (body_of me) vel cmd.ms solids goes.side in
    subst (λ (w : Walked). GoesAt vel cmd.ms me (moved_by me.origin w ground)) (sym walk_is)
    (goes_by_slide me vel cmd.ms (slide_of (body_of me) vel cmd.ms solids) ground goes)

pub free_moves_go_by_the_rules : FreeMovesGoByTheRules
unfolding velocity_after
free_moves_go_by_the_rules me cmd solids = free_move me cmd solids _ refl

-- ---- without a wish
-- the velocity of a move, where the ground test, the jump and the wish are known
unwished : (me : Rec) (cmd : Intent) (on_ground ground jump : Bool) → WishesNothing me cmd → on_ground ≡ ground → (cmd.buttons % 2 == 1) ≡ jump
    → velocity_after on_ground me cmd ≡ velocity_of ground jump me.vel (pos 0) (pos 0) cmd.ms
unfolding velocity_after
unwished me cmd on_ground ground jump wishes ground_is jump_is =
    rw (ground_is, jump_is, wishes.wish_x, wishes.wish_y) refl

vector_is : (v : Vec3) (x y z : ℤ) → v.x ≡ x → v.y ≡ y → v.z ≡ z → v ≡ vector x y z
vector_is v x y z x_is y_is z_is = λ i. record { x = x_is i; y = y_is i; z = z_is i }

pub free_players_fall : FreePlayersFall
free_players_fall me cmd solids wishes in_air =
    let flies = (fliers_keep_their_course me.vel cmd.ms wishes.near).falling (jumps cmd) in
    let falls = (heights_are_known me.vel (pos 0) (pos 0) cmd.ms wishes.near wishes.brief).falling (jumps cmd) in
    free_move me cmd solids _ (unwished me cmd _ false (jumps cmd) wishes in_air refl ∙ vector_is _ _ _ _ flies.x flies.y falls)

pub free_players_jump : FreePlayersJump
free_players_jump me cmd solids wishes on_ground pressed =
    let flies = (fliers_keep_their_course me.vel cmd.ms wishes.near).jumping in
    let rises = (heights_are_known me.vel (pos 0) (pos 0) cmd.ms wishes.near wishes.brief).jumping in
    free_move me cmd solids _ (unwished me cmd _ true true wishes on_ground (eq-eqb (cmd.buttons % 2) 1 pressed) ∙ vector_is _ _ _ _ flies.x flies.y rises)

-- what friction leaves is one velocity
same_slowed : (speed ms : ℕ) (v a b : Vec3) → IsSlowed speed ms v a → IsSlowed speed ms v b → a ≡ b
same_slowed zero ms v a b one other = one.still refl ∙ sym (other.still refl)
same_slowed (suc n) ms v a b one other =
    let some : 0 < suc n = omega arith in
    λ i. record { x = (one.x some ∙ sym (other.x some)) i; y = (one.y some ∙ sym (other.y some)) i; z = (one.z ∙ sym other.z) i }

pub free_players_slow_down : FreePlayersSlowDown
free_players_slow_down me cmd solids speed slower wishes on_ground left root slows =
    free_move me cmd solids slower
    (unwished me cmd _ true false wishes on_ground (ne_eqb (cmd.buttons % 2) 1 left)
    ∙ same_slowed speed cmd.ms me.vel _ slower (walkers_are_slowed me.vel speed cmd.ms wishes.near root) slows)
