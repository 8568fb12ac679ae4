-- What holds of every shot.
use Rattle.std.specs.Prelude.{◌≡◌, ◌↔◌, ℕ, ◌+◌, ◌*◌, ◌/◌, ◌%◌, ◌<◌, ◌≤◌, min, nat_lt, true, false, ◌&&◌, List, [], ◌∷◌, ◌++◌}
use Rattle.std.specs.Prelude.{length, map, find, Contains, Some, ℤ, pos, neg_ℤ, ◌+ℤ◌, ◌-ℤ◌, ◌≤ℤ◌, ◌<ℤ◌, unsigned_abs}
use Rattle.arena_geo.specs.declared.vec3.Vec3.{Vec3}
use Rattle.arena_geo.specs.Vectors.{vector}
use Rattle.arena_geo.specs.Bounds.{Bounds, bounds}
use Rattle.arena_geo.specs.Boxes.{overlaps, is_blocked, contains, box_grown_by}
use Rattle.entity_recs.specs.declared.effect.NewState.{NewState}
use Rattle.entity_recs.specs.declared.kind.Kind.TheVariants.{Player}
use Rattle.entity_recs.specs.declared.rec.Rec.{Rec}
use Rattle.entity_recs.specs.Kinds.{is_solid}
use Rattle.entity_recs.specs.Records.{with_state}
use Rattle.entity_recs.specs.Bodies.{body_of}
use Rattle.entity_recs.specs.Commands.{Command}
use Rattle.box_trace.specs.Steps.{step_count, body_at}
use Rattle.trigger_rules.specs.Touching.{Walk, bodies_of_solids, new_state}
use Rattle.shot_rules.specs.declared.numbers.TheConstants.{FIRE, LEAPT_BIT, HALF_WIDTH, RANGE, DAMAGE, DOWN, FRAMES_DOWN}
use Rattle.shot_rules.specs.Targets.{shot_box, shot_range, has_aim, way_along, is_in_way, target_of}
use Rattle.shot_rules.specs.Shots.{is_down, is_fired, state_after_hit, after_hit, walk_after_shot, after_shot}

-- the numbers of shots have these values
pub record NumbersAreKnown : Type 0 where
  pub fire : FIRE ≡ 1
  pub leapt_bit : LEAPT_BIT ≡ 1
  pub half_width : HALF_WIDTH ≡ pos 256
  pub range : RANGE ≡ pos 65536
  pub damage : DAMAGE ≡ 25
  pub down : DOWN ≡ 100
  pub frames_down : FRAMES_DOWN ≡ 40

-- ---- when a shot is fired

-- a shot is asked for and allowed: bit 1 of the buttons is set, bit 1 of the flags isn't, there is ammunition, the wish
-- isn't (0, 0), and fewer than 8 items were taken in this move
pub record IsFiring (c : Command) (w : Walk) : Type 0 where
  pub pressed : c.buttons / 2 % 2 ≡ 1
  pub stayed : w.me.flags / 2 % 2 ≡ 0
  pub loaded : 0 < w.me.ammo
  pub wish : 0 < unsigned_abs c.wish_x + unsigned_abs c.wish_y
  pub few : length w.got < 8

-- a shot is fired exactly where all of this holds
abbrev pub FiringIsKnown : Type 0
FiringIsKnown = (c : Command) (w : Walk) → (is_fired c w ≡ true) ↔ IsFiring c w

-- ---- ammunition

-- there was ammunition, and one is gone
pub record IsOneSpent (before after : Rec) : Type 0 where
  pub some : 0 < before.ammo
  pub one : after.ammo + 1 ≡ before.ammo

-- a shot needs ammunition and takes one, whatever it meets; where none is fired nothing changes
pub record ShotsTakeAmmunition : Type 0 where
  pub fired : (fixed : List Bounds) (near : List Rec) (c : Command) (w : Walk) → is_fired c w ≡ true
      → IsOneSpent w.me (after_shot fixed near c w).me
  pub unfired : (fixed : List Bounds) (near : List Rec) (c : Command) (w : Walk) → is_fired c w ≡ false
      → after_shot fixed near c w ≡ w

-- who fired is the same one, in place and as fast; it may have less ammunition and a point more
pub record IsShooterAfter (before after : Rec) : Type 0 where
  pub same : after ≡ record before { ammo = after.ammo; score = after.score }
  pub ammo : after.ammo ≤ before.ammo
  pub no_less : before.score ≤ 4294967295 → before.score ≤ after.score
  pub one_more : after.score ≤ before.score + 1
  pub most : before.score ≤ 4294967295 → after.score ≤ 4294967295

-- a shot changes nothing of who fires but its ammunition and its score, which grows by 1 at most
abbrev pub ShootersStayThemselves : Type 0
ShootersStayThemselves =
    (fixed : List Bounds) (near : List Rec) (c : Command) (w : Walk) → IsShooterAfter w.me (after_shot fixed near c w).me

-- ---- where a shot goes

-- a way goes along this wish: to the side of the wish on each axis, level, straight but for what is cut off on each axis
-- (less than 1), and, with that, 65,536 far, or up to 256 farther where the length of the wish was rounded down
pub record IsAlongWish (wish_x wish_y : ℤ) (way : Vec3) : Type 0 where
  pub up_x : pos 0 ≤ℤ wish_x → pos 0 ≤ℤ way.x
  pub down_x : wish_x ≤ℤ pos 0 → way.x ≤ℤ pos 0
  pub up_y : pos 0 ≤ℤ wish_y → pos 0 ≤ℤ way.y
  pub down_y : wish_y ≤ℤ pos 0 → way.y ≤ℤ pos 0
  pub level : way.z ≡ pos 0
  pub straight_x : unsigned_abs way.x * unsigned_abs wish_y ≤ (unsigned_abs way.y + 1) * unsigned_abs wish_x
  pub straight_y : unsigned_abs way.y * unsigned_abs wish_x ≤ (unsigned_abs way.x + 1) * unsigned_abs wish_y
  pub least : 65536 * 65536
      ≤ (unsigned_abs way.x + 1) * (unsigned_abs way.x + 1) + (unsigned_abs way.y + 1) * (unsigned_abs way.y + 1)
  pub most : unsigned_abs way.x * unsigned_abs way.x + unsigned_abs way.y * unsigned_abs way.y ≤ 65792 * 65792

-- a shot goes where the wish points: its box is 256 around the origin, and goes 65,536 along an axis where the wish is
-- along it, and along any wish that isn't (0, 0)
pub record ShotsFollowTheWish : Type 0 where
  pub box : (origin : Vec3) → shot_box origin
      ≡ bounds (vector (origin.x -ℤ pos 256) (origin.y -ℤ pos 256) (origin.z -ℤ pos 256))
      (vector (origin.x +ℤ pos 256) (origin.y +ℤ pos 256) (origin.z +ℤ pos 256))
  pub up_x : (wish : ℤ) → pos 0 <ℤ wish → way_along wish (pos 0) ≡ vector (pos 65536) (pos 0) (pos 0)
  pub down_x : (wish : ℤ) → wish <ℤ pos 0 → way_along wish (pos 0) ≡ vector (neg_ℤ (pos 65536)) (pos 0) (pos 0)
  pub up_y : (wish : ℤ) → pos 0 <ℤ wish → way_along (pos 0) wish ≡ vector (pos 0) (pos 65536) (pos 0)
  pub down_y : (wish : ℤ) → wish <ℤ pos 0 → way_along (pos 0) wish ≡ vector (pos 0) (neg_ℤ (pos 65536)) (pos 0)
  pub slanting : (wish_x wish_y : ℤ) → 0 < unsigned_abs wish_x + unsigned_abs wish_y
      → IsAlongWish wish_x wish_y (way_along wish_x wish_y)

-- at each step of its way the box of a shot is within 65,792 of the origin on x and y, and within 256 on z
abbrev pub ShotsStayNear : Type 0
ShotsStayNear =
    (origin : Vec3) (wish_x wish_y : ℤ) (k : ℕ) → has_aim wish_x wish_y ≡ true
    → k ≤ step_count (way_along wish_x wish_y)
    → contains (box_grown_by (bounds origin origin) (vector (pos 65792) (pos 65792) (pos 256)))
    (body_at (shot_box origin) (way_along wish_x wish_y) k)
    ≡ true

-- at each step of its way the box of a shot is in its range
abbrev pub ShotsStayInRange : Type 0
ShotsStayInRange =
    (origin way : Vec3) (k : ℕ) → k ≤ step_count way
    → contains (shot_range origin way) (body_at (shot_box origin) way k) ≡ true

-- ---- who is hit

-- a shot that is fired after this walk hits this record: it is that of a player that isn't down, whose body the box of
-- the shot overlaps at some step of its way. At no step before is anything in the way, and at that step no wall and no
-- block is, and of the solids that are the record is the first
pub record IsHit (fixed : List Bounds) (near : List Rec) (c : Command) (w : Walk) (r : Rec) : Type 0 where
  pub listed : Contains near r
  pub player : r.kind ≡ Player
  pub standing : r.state < DOWN
  pub step : ℕ
  pub from : 1 ≤ step
  pub within : step ≤ step_count (way_along c.wish_x c.wish_y)
  pub reached : overlaps (body_at (shot_box w.me.origin) (way_along c.wish_x c.wish_y) step) (body_of r) ≡ true
  pub free : (k : ℕ) → 1 ≤ k → k < step
      → is_blocked (body_at (shot_box w.me.origin) (way_along c.wish_x c.wish_y) k) (fixed ++ bodies_of_solids near)
      ≡ false
  pub clear : is_blocked (body_at (shot_box w.me.origin) (way_along c.wish_x c.wish_y) step) fixed ≡ false
  pub first : find
      (λ (o : Rec). is_solid o.kind
      && overlaps (body_at (shot_box w.me.origin) (way_along c.wish_x c.wish_y) step) (body_of o))
      near
      ≡ Some r

-- what a shot that is fired after this walk does: it hits nobody, and nothing but ammunition changes; or it hits one
-- player
pub data IsShot (fixed : List Bounds) (near : List Rec) (c : Command) (w after : Walk) : Type 0 where
  Misses : after ≡ walk_after_shot w → IsShot fixed near c w after
  Hits : (r : Rec) → IsHit fixed near c w r → after ≡ after_hit c.frame (walk_after_shot w) r → IsShot fixed near c w after

-- nobody is hit through a wall or a block, or through another solid, and nobody that is down is
abbrev pub HitsAreInTheWay : Type 0
HitsAreInTheWay =
    (fixed : List Bounds) (near : List Rec) (c : Command) (w : Walk) → is_fired c w ≡ true
    → IsShot fixed near c w (after_shot fixed near c w)

-- these are the new states and the ids of before, with the new state of one record last and its id first, or of none
pub record HasOneMore (before after : Walk) : Type 0 where
  pub new : List NewState
  pub few : length new ≤ 1
  pub states : after.states ≡ before.states ++ new
  pub got : after.got ≡ map (λ s. s.id) new ++ before.got

-- at most one is hit
abbrev pub AtMostOneIsHit : Type 0
AtMostOneIsHit =
    (fixed : List Bounds) (near : List Rec) (c : Command) (w : Walk) → HasOneMore w (after_shot fixed near c w)

-- the first thing in the way of a shot is met: nothing is before it, no wall and no block is there too, and of the
-- records it is the first
pub record IsFirstInTheWay (fixed : List Bounds) (near : List Rec) (body : Bounds) (way : Vec3) (r : Rec) : Type 0 where
  pub step : ℕ
  pub from : 1 ≤ step
  pub within : step ≤ step_count way
  pub free : (k : ℕ) → 1 ≤ k → k < step → is_blocked (body_at body way k) (fixed ++ bodies_of_solids near) ≡ false
  pub clear : is_blocked (body_at body way step) fixed ≡ false
  pub first : find (λ (o : Rec). is_solid o.kind && overlaps (body_at body way step) (body_of o)) near ≡ Some r

-- who is first in the way is met
abbrev pub WhoIsFirstIsMet : Type 0
WhoIsFirstIsMet =
    (fixed : List Bounds) (near : List Rec) (body : Bounds) (way : Vec3) (r : Rec)
    → IsFirstInTheWay fixed near body way r → target_of body way fixed near ≡ Some r

-- after this walk and a hit on this record: its id is first in what was got, its new state last. Below 100 that is 25
-- more; else the player is down until 40 frames after this one, and who fired has a point more, up to 4,294,967,295
pub record IsHitDone (frame : ℕ) (w : Walk) (r : Rec) (after : Walk) : Type 0 where
  pub state : ℕ
  pub states : after.states ≡ w.states ++ new_state r.id state ∷ []
  pub got : after.got ≡ r.id ∷ w.got
  pub wounded : r.state + 25 < 100 → (state ≡ r.state + 25) × (after.me.score ≡ w.me.score)
  pub fallen : 100 ≤ r.state + 25
      → (state ≡ 100 + (frame + 40)) × (after.me.score ≡ min 4294967295 (w.me.score + 1))

-- a player with a state below 100 that is first in the way of a shot is hit
abbrev pub WhoStandsFirstIsHit : Type 0
WhoStandsFirstIsHit =
    (fixed : List Bounds) (near : List Rec) (c : Command) (w : Walk) (r : Rec) → is_fired c w ≡ true
    → IsFirstInTheWay fixed near (shot_box w.me.origin) (way_along c.wish_x c.wish_y) r
    → r.kind ≡ Player → r.state < 100
    → IsHitDone c.frame w r (after_shot fixed near c w)

-- ---- damage

-- the damage after a hit: more than before; below 100 it is 25 more, and else the player is down for 40 frames, from this
-- one on
pub record IsHurt (r : Rec) (frame : ℕ) : Type 0 where
  pub more : r.state < state_after_hit r.state frame
  pub wounded : r.state + 25 < 100 → state_after_hit r.state frame ≡ r.state + 25
  pub fallen : 100 ≤ r.state + 25
      → (later : ℕ) → is_down (with_state r (state_after_hit r.state frame)) later ≡ nat_lt later (frame + 40)

-- damage only grows until the fall
abbrev pub DamageGrows : Type 0
DamageGrows = (r : Rec) (frame : ℕ) → r.state < DOWN → IsHurt r frame

-- ---- what doesn't matter

-- at each step of the way the same walls and blocks are in it, and the same record is the first that is
pub record IsSameWay (body : Bounds) (way : Vec3) (fixed others : List Bounds) (near some : List Rec) : Type 0 where
  pub fixed_are : (k : ℕ) → 1 ≤ k → k ≤ step_count way
      → is_blocked (body_at body way k) fixed ≡ is_blocked (body_at body way k) others
  pub near_are : (k : ℕ) → 1 ≤ k → k ≤ step_count way
      → find (is_in_way (body_at body way k)) near ≡ find (is_in_way (body_at body way k)) some

-- only what is in the way matters
abbrev pub OnlyTheWayMatters : Type 0
OnlyTheWayMatters =
    (body : Bounds) (way : Vec3) (fixed others : List Bounds) (near some : List Rec)
    → IsSameWay body way fixed others near some
    → target_of body way fixed near ≡ target_of body way others some
