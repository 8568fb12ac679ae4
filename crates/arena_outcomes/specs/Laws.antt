-- What holds of every move in an arena, but for shots.
use Rattle.std.specs.Prelude.{◌≡◌, ◌≢◌, ℕ, ◌+◌, ◌*◌, ◌/◌, min, ℤ, pos, unsigned_abs, true, false, List, [], map, All}
use Rattle.std.specs.Prelude.{Contains, Some}
use Rattle.std.specs.List.{IsDistinct}
use Rattle.std.specs.List.Sorted.{IsStrictlyIncreasing}
use Rattle.arena_geo.specs.declared.vec3.Vec3.{Vec3}
use Rattle.arena_geo.specs.Vectors.{vector}
use Rattle.arena_geo.specs.Bounds.{Bounds}
use Rattle.arena_geo.specs.Boxes.{is_blocked, touches, contains, box_grown_by}
use Rattle.entity_recs.specs.declared.effect.Effect.{Effect}
use Rattle.entity_recs.specs.declared.kind.Kind.TheVariants.{Teleporter}
use Rattle.entity_recs.specs.declared.rec.Rec.{Rec}
use Rattle.entity_recs.specs.Bodies.{body_of, abs_of}
use Rattle.entity_recs.specs.Commands.{Command}
use Rattle.arena_map.specs.Maps.{MapView, IsMap, entities_of, dest_of}
use Rattle.player_move.specs.declared.moved.Moved.{Moved}
use Rattle.player_move.specs.Moves.{move_of}
use Rattle.trigger_rules.specs.Touching.{touched_by, solids_among, Walk, touched}
use Rattle.trigger_rules.specs.Laws.{IsPlayerOn, AreTaken, is_same_record}
use Rattle.arena_outcomes.specs.Outcomes.{intent_of_command, flags_of, after_move, moved_among, outcome_in}
use Rattle.arena_outcomes.specs.Regions.{region_in, shot_region}

-- a player on a map is one after its move
abbrev pub PlayersStayOnMaps : Type 0
PlayersStayOnMaps =
    (arena : MapView) (me : Rec) (near : List Rec) (c : Command) → IsMap arena → IsPlayerOn arena me
    → IsPlayerOn arena (outcome_in arena me near c).me

-- the player is the same one, in the same shape and state, after the command with this number
pub record IsPlayerAfter (me : Rec) (number : ℕ) (after : Rec) : Type 0 where
  pub id : after.id ≡ me.id
  pub kind : after.kind ≡ me.kind
  pub mins : after.mins ≡ me.mins
  pub maxs : after.maxs ≡ me.maxs
  pub state : after.state ≡ me.state
  pub seq : after.seq ≡ number

-- so it is after each move
abbrev pub MovesKeepWhoMoves : Type 0
MovesKeepWhoMoves =
    (arena : MapView) (me : Rec) (near : List Rec) (c : Command)
    → IsPlayerAfter me c.seq (outcome_in arena me near c).me

-- the effect is this move alone: the player is where the move ends, as fast as it leaves it, and has what it had; no
-- record changes state, and nothing was got
pub record IsMoveAlone (me : Rec) (moved : Moved) (effect : Effect) : Type 0 where
  pub origin : effect.me.origin ≡ moved.origin
  pub vel : effect.me.vel ≡ moved.vel
  pub flags : effect.me.flags ≡ flags_of moved.ground
  pub ammo : effect.me.ammo ≡ me.ammo
  pub carry : effect.me.carry ≡ me.carry
  pub score : effect.me.score ≡ me.score
  pub states : effect.states ≡ []
  pub got : effect.reply.got ≡ []

-- where nothing is touched after the move, the outcome is the whole move among the walls, the blocks and the bodies of
-- the other solids
abbrev pub MovesAreMade : Type 0
MovesAreMade =
    (arena : MapView) (me : Rec) (near : List Rec) (c : Command)
    → let moved = move_of me (intent_of_command c) (solids_among arena near) in
    touched_by (after_move me moved c.seq) near ≡ []
    → IsMoveAlone me moved (outcome_in arena me near c)

-- the player is where the move ends, as fast as it leaves it, with its bit for the ground
pub record IsWhereItMoved (moved : Moved) (after : Rec) : Type 0 where
  pub origin : after.origin ≡ moved.origin
  pub vel : after.vel ≡ moved.vel
  pub flags : after.flags ≡ flags_of moved.ground

-- a player that touches no teleporter after its move is where it moved
abbrev pub PlayersAreWhereTheyMoved : Type 0
PlayersAreWhereTheyMoved =
    (arena : MapView) (me : Rec) (near : List Rec) (c : Command)
    → let moved = move_of me (intent_of_command c) (solids_among arena near) in
    All (λ r. r.kind ≢ Teleporter) (touched_by (after_move me moved c.seq) near)
    → IsWhereItMoved moved (outcome_in arena me near c).me

-- the effect is what this walk over what a player touches does, and the reply has its origin and the ids that it got
pub record IsEffectOf (w : Walk) (effect : Effect) : Type 0 where
  pub player : effect.me ≡ w.me
  pub states : effect.states ≡ w.states
  pub origin : effect.reply.origin ≡ w.me.origin
  pub got : effect.reply.got ≡ w.got

-- after its move a player touches what it touches where it moved to
abbrev pub TouchingFollowsMoves : Type 0
TouchingFollowsMoves =
    (arena : MapView) (me : Rec) (near : List Rec) (c : Command)
    → let moved = move_of me (intent_of_command c) (solids_among arena near) in
    IsEffectOf (touched arena c.frame (after_move me moved c.seq) near) (outcome_in arena me near c)

-- a player whose body overlaps no solid before its move overlaps none after it
abbrev pub PlayersStayFree : Type 0
PlayersStayFree =
    (arena : MapView) (me : Rec) (near : List Rec) (c : Command) → IsPlayerOn arena me
    → is_blocked (body_of me) (solids_among arena near) ≡ false
    → is_blocked (body_of (outcome_in arena me near c).me) (solids_among arena near) ≡ false

-- what a player got was there and is touched where it moved to, and returns after its delay; nothing else changes
-- state, and the reply has the ids
abbrev pub MovesTakeWhatIsThere : Type 0
MovesTakeWhatIsThere =
    (arena : MapView) (me : Rec) (near : List Rec) (c : Command)
    → let e = outcome_in arena me near c in
    AreTaken arena c.frame (moved_among arena me near c) near e.states e.reply.got

-- no record gets two new states, where the ids of the records rise
abbrev pub NewStatesAreApart : Type 0
NewStatesAreApart =
    (arena : MapView) (me : Rec) (near : List Rec) (c : Command) → IsStrictlyIncreasing (map (λ r. r.id) near)
    → IsDistinct is_same_record (outcome_in arena me near c).states

-- the ids in a reply rise, where those of the records do
abbrev pub RepliedIdsRise : Type 0
RepliedIdsRise =
    (arena : MapView) (me : Rec) (near : List Rec) (c : Command) → IsStrictlyIncreasing (map (λ r. r.id) near)
    → IsStrictlyIncreasing (outcome_in arena me near c).reply.got

-- the reply has the player's origin
abbrev pub RepliesHaveTheOrigin : Type 0
RepliesHaveTheOrigin =
    (arena : MapView) (me : Rec) (near : List Rec) (c : Command)
    → let e = outcome_in arena me near c in e.reply.origin ≡ e.me.origin

-- ---- where a move may read and write
-- how far a player that begins with this speed on an axis may go on it in this time: it comes to 81,920 a second more
-- than that speed, and to 512,000 at most
abbrev pub farthest_on : ℤ → ℕ → ℕ
farthest_on speed ms = min 512000 (unsigned_abs speed + 81920) * ms / 1000

-- the player's absolute box, larger by how far the player may go in this time, and by so much more on x and y and so
-- much more on z
abbrev pub box_around : Rec → ℕ → ℕ → ℕ → Bounds
box_around me ms flat high =
    box_grown_by (abs_of me) (vector
    (pos (farthest_on me.vel.x ms + flat)) (pos (farthest_on me.vel.y ms + flat))
    (pos (farthest_on me.vel.z ms + high)))

-- a box is near a player, with so much room
pub data IsNearPlayer (room : ℕ) (arena : MapView) (me : Rec) (ms : ℕ) (box : Bounds) : Type 0 where
  -- it lies around the player, no farther than the player may go, the room and 256 more, on z 4,864 more
  IsAround : contains (box_around me ms (256 + room) (4864 + room)) box ≡ true → IsNearPlayer room arena me ms box
  -- it lies around the place where a teleporter puts the player, no farther than 16,384; and the teleporter touches what
  -- lies around the player, no farther than it may go and 256 more, on z 4,864 more
  IsLanding : (teleporter : Rec) (dest : Vec3) → Contains (entities_of arena) teleporter
      → dest_of arena teleporter.id ≡ Some dest
      → touches (abs_of teleporter) (box_around me ms 256 4864) ≡ true
      → contains (box_grown_by (abs_of (record me { origin = dest })) (vector (pos 16384) (pos 16384) (pos 16384))) box ≡ true
      → IsNearPlayer room arena me ms box

-- each box of the region of a move is near its player
pub record RegionsAreNear : Type 0 where
  pub plain : (arena : MapView) (me : Rec) (c : Command)
      → All (IsNearPlayer 16384 arena me c.ms) (region_in arena me c)
  pub shots : (arena : MapView) (me : Rec) (c : Command)
      → All (IsNearPlayer 81920 arena me c.ms) (shot_region arena me c)
