-- What holds of every move on a map with shots, and of every move on a map.
use Rattle.std.specs.Prelude.{◌≡◌, ℕ, ◌+◌, ◌<◌, ◌≤◌, true, false, List, [], map, length, All}
use Rattle.std.specs.List.{IsDistinct}
use Rattle.std.specs.List.Sorted.{IsStrictlyIncreasing}
use Rattle.arena_geo.specs.Vectors.{zero_vector}
use Rattle.arena_geo.specs.Boxes.{is_blocked}
use Rattle.entity_recs.specs.declared.effect.Effect.{Effect}
use Rattle.entity_recs.specs.declared.rec.Rec.{Rec}
use Rattle.entity_recs.specs.Records.{IsRecord, with_state}
use Rattle.entity_recs.specs.Bodies.{body_of}
use Rattle.entity_recs.specs.Commands.{Command}
use Rattle.arena_map.specs.Maps.{MapView, IsMap, solids_of}
use Rattle.trigger_rules.specs.Touching.{solids_among, touched}
use Rattle.trigger_rules.specs.Laws.{IsPlayerOn, is_same_record}
use Rattle.shot_rules.specs.Shots.{is_fired, after_shot}
use Rattle.arena_outcomes.specs.declared.sizes.TheConstants.{ROOM, SHOT_ROOM}
use Rattle.arena_outcomes.specs.Outcomes.{moved_among, effect_of, outcome_in, shot_outcome, outcome_on}
use Rattle.arena_outcomes.specs.Regions.{region_in, shot_region, region_on}

-- how much room there is around where a player may be, without shots and with them
pub record RoomsAreKnown : Type 0 where
  pub room : ROOM ≡ 16384
  pub shot_room : SHOT_ROOM ≡ 65536 + 16384

-- ---- who is down

-- the player stays where it is, at rest, drops what it carries and keeps all else; it takes nothing and hits nobody
pub record IsLying (me : Rec) (number : ℕ) (e : Effect) : Type 0 where
  pub origin : e.me.origin ≡ me.origin
  pub at_rest : e.me.vel ≡ zero_vector
  pub flags : e.me.flags ≡ 0
  pub carry : e.me.carry ≡ 0
  pub ammo : e.me.ammo ≡ me.ammo
  pub score : e.me.score ≡ me.score
  pub state : e.me.state ≡ me.state
  pub seq : e.me.seq ≡ number
  pub states : e.states ≡ []
  pub got : e.reply.got ≡ []

-- a player that is down neither moves nor takes nor shoots until its frame comes
abbrev pub DownPlayersLie : Type 0
DownPlayersLie =
    (arena : MapView) (me : Rec) (near : List Rec) (c : Command) (frame : ℕ) → me.state ≡ 100 + frame → c.frame < frame
    → IsLying me c.seq (shot_outcome arena me near c)

-- from that frame on it moves again, as one without damage
pub record HasRisen (arena : MapView) (me : Rec) (near : List Rec) (c : Command) : Type 0 where
  pub as_new : shot_outcome arena me near c ≡ shot_outcome arena (with_state me 0) near c
  pub state : (shot_outcome arena me near c).me.state ≡ 0

abbrev pub DownPlayersRise : Type 0
DownPlayersRise =
    (arena : MapView) (me : Rec) (near : List Rec) (c : Command) (frame : ℕ) → me.state ≡ 100 + frame → frame ≤ c.frame
    → HasRisen arena me near c

-- ---- who isn't

-- a player that isn't down moves and touches as in each arena, and then fires, if it does; it keeps its damage
pub record IsShooting (arena : MapView) (me : Rec) (near : List Rec) (c : Command) : Type 0 where
  pub effect : shot_outcome arena me near c
      ≡ effect_of (after_shot (solids_of arena) near c (touched arena c.frame (moved_among arena me near c) near))
  pub no_shot : is_fired c (touched arena c.frame (moved_among arena me near c) near) ≡ false
      → shot_outcome arena me near c ≡ outcome_in arena me near c
  pub state : (shot_outcome arena me near c).me.state ≡ me.state

abbrev pub ShotsFollowMoves : Type 0
ShotsFollowMoves =
    (arena : MapView) (me : Rec) (near : List Rec) (c : Command) → me.state < 100 → IsShooting arena me near c

-- ---- on a map

-- a map without shots has the arena's moves and regions, and one with shots those with shots
pub record MapsDecide : Type 0 where
  pub plain_outcome : (arena : MapView) → arena.shots ≡ false → outcome_on arena ≡ outcome_in arena
  pub shot_outcome : (arena : MapView) → arena.shots ≡ true → outcome_on arena ≡ shot_outcome arena
  pub plain_region : (arena : MapView) → arena.shots ≡ false → region_on arena ≡ region_in arena
  pub shot_region : (arena : MapView) → arena.shots ≡ true → region_on arena ≡ shot_region arena

-- the player is the same one, in the same shape, after the command with this number, and the reply has its origin
pub record IsMoverAfter (me : Rec) (number : ℕ) (e : Effect) : Type 0 where
  pub id : e.me.id ≡ me.id
  pub kind : e.me.kind ≡ me.kind
  pub mins : e.me.mins ≡ me.mins
  pub maxs : e.me.maxs ≡ me.maxs
  pub seq : e.me.seq ≡ number
  pub origin : e.reply.origin ≡ e.me.origin

-- so it is after each move on a map
abbrev pub MoversStayThemselves : Type 0
MoversStayThemselves =
    (arena : MapView) (me : Rec) (near : List Rec) (c : Command) → IsMoverAfter me c.seq (outcome_on arena me near c)

-- a player on a map is one after each move on it
abbrev pub MoversStayOnMaps : Type 0
MoversStayOnMaps =
    (arena : MapView) (me : Rec) (near : List Rec) (c : Command) → IsMap arena → IsPlayerOn arena me
    → IsPlayerOn arena (outcome_on arena me near c).me

-- a player on a map whose body overlaps no solid before its move overlaps none after it
abbrev pub MoversStayFree : Type 0
MoversStayFree =
    (arena : MapView) (me : Rec) (near : List Rec) (c : Command) → IsPlayerOn arena me
    → is_blocked (body_of me) (solids_among arena near) ≡ false
    → is_blocked (body_of (outcome_on arena me near c).me) (solids_among arena near) ≡ false

-- the ids in a reply rise, and are at most 8; no record gets two new states
pub record HasFewInOrder (e : Effect) : Type 0 where
  pub few : length e.reply.got ≤ 8
  pub rising : IsStrictlyIncreasing e.reply.got
  pub apart : IsDistinct is_same_record e.states

-- so it is after each move on a map, among records within their bounds, in rising id
abbrev pub RepliesAreShort : Type 0
RepliesAreShort =
    (arena : MapView) (me : Rec) (near : List Rec) (c : Command) → All IsRecord near
    → IsStrictlyIncreasing (map (λ r. r.id) near) → HasFewInOrder (outcome_on arena me near c)
