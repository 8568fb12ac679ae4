-- The flags of a player after its move, bit by bit.
use Rattle.std.specs.Prelude.{◌≡◌, ◌↔◌, ℕ, ◌/◌, ◌%◌, ◌≤◌, false, List, Some, Any, pos, ◌+ℤ◌, ◌-ℤ◌, ◌<ℤ◌}
use Rattle.arena_geo.specs.declared.vec3.Vec3.{Vec3}
use Rattle.arena_geo.specs.Bounds.{Bounds}
use Rattle.arena_geo.specs.Boxes.{is_blocked}
use Rattle.entity_recs.specs.declared.kind.Kind.TheVariants.{Teleporter}
use Rattle.entity_recs.specs.declared.rec.Rec.{Rec}
use Rattle.entity_recs.specs.Bodies.{player_body}
use Rattle.entity_recs.specs.Commands.{Command}
use Rattle.arena_map.specs.Maps.{MapView, dest_of}
use Rattle.trigger_rules.specs.Touching.{touched_by, solids_among}
use Rattle.trigger_rules.specs.Laws.{IsPlayerOn}
use Rattle.arena_outcomes.specs.Outcomes.{moved_among, outcome_in}

-- the solid is under a player: the player's body, which goes from 4,096 to each side of its origin and from 6,144 below it
-- to 8,192 above it, has a common inside with the solid once it is 1 lower
pub record IsUnder (me : Rec) (solid : Bounds) : Type 0 where
  pub to_high_x : (me.origin.x -ℤ pos 4096) <ℤ solid.hi.x
  pub from_low_x : solid.lo.x <ℤ (me.origin.x +ℤ pos 4096)
  pub to_high_y : (me.origin.y -ℤ pos 4096) <ℤ solid.hi.y
  pub from_low_y : solid.lo.y <ℤ (me.origin.y +ℤ pos 4096)
  pub bottom : (me.origin.z -ℤ pos 6145) <ℤ solid.hi.z
  pub top : solid.lo.z <ℤ (me.origin.z +ℤ pos 8191)

-- the record is a teleporter's, and a player's body at its destination overlaps none of these solids
pub record IsFreeTeleporter (arena : MapView) (solids : List Bounds) (r : Rec) : Type 0 where
  pub kind : r.kind ≡ Teleporter
  pub dest : Vec3
  pub dest_is : dest_of arena r.id ≡ Some dest
  pub free : is_blocked (player_body dest) solids ≡ false

-- bit 0 says that a wall, a block or another solid was under the player before its move; bit 1 says that the player
-- touched a free teleporter where it moved to; and no other bit is set
pub record AreFlagsOf (arena : MapView) (me : Rec) (near : List Rec) (c : Command) (flags : ℕ) : Type 0 where
  pub ground : (flags % 2 ≡ 1) ↔ Any (IsUnder me) (solids_among arena near)
  pub leapt : (flags / 2 ≡ 1)
      ↔ Any (IsFreeTeleporter arena (solids_among arena near)) (touched_by (moved_among arena me near c) near)
  pub most : flags ≤ 3

-- such are the flags of each player on a map after its move, whatever they were before
abbrev pub FlagsAreKnown : Type 0
FlagsAreKnown =
    (arena : MapView) (me : Rec) (near : List Rec) (c : Command) → IsPlayerOn arena me
    → AreFlagsOf arena me near c (outcome_in arena me near c).me.flags
