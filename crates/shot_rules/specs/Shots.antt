-- Shots: when a player fires, and what a shot does.
use Rattle.std.specs.Prelude.{ℕ, ◌+◌, ◌-◌, min, nat_lt, nat_le, Bool, true, false, ◌&&◌, not, if◌then◌else◌, List, []}
use Rattle.std.specs.Prelude.{◌∷◌, ◌++◌, length, Option, Some, None}
use Rattle.arena_geo.specs.Bounds.{Bounds}
use Rattle.entity_recs.specs.declared.lists.TheConstants.{LIST_LEN}
use Rattle.entity_recs.specs.declared.rec.Rec.{Rec}
use Rattle.entity_recs.specs.Commands.{Command}
use Rattle.entity_recs.specs.Kinds.{is_player}
use Rattle.trigger_rules.specs.Touching.{Walk, walk_of, new_state}
use Rattle.shot_rules.specs.declared.numbers.TheConstants.{FIRE, LEAPT_BIT, DAMAGE, DOWN, FRAMES_DOWN}
use Rattle.shot_rules.specs.Targets.{is_set, shot_box, has_aim, way_along, target_of}

-- ---- who is down

-- the player is down: it has fallen, and moves again in a later frame
abbrev pub is_down : Rec → ℕ → Bool
is_down me frame = nat_le DOWN me.state && nat_lt frame (me.state - DOWN)

-- ---- when a shot is fired

-- the player may fire: bit 1 of the buttons is set, it has ammunition, its move didn't end in a teleporter, and fewer than
-- 8 items were taken in this move
abbrev pub may_fire : Command → Rec → List ℕ → Bool
may_fire c me got =
    is_set c.buttons FIRE && nat_lt 0 me.ammo && not (is_set me.flags LEAPT_BIT) && nat_lt (length got) LIST_LEN

-- a shot is fired: the player may fire, and it wishes to go somewhere, which is where the shot goes
abbrev pub is_fired : Command → Walk → Bool
is_fired c w = may_fire c w.me w.got && has_aim c.wish_x c.wish_y

-- ---- what a hit does

-- the record is that of a player that a shot may hurt: one that isn't down, with a state below 100
abbrev pub stands : Rec → Bool
stands r = is_player r.kind && nat_lt r.state DOWN

-- a hit fells who has this damage
abbrev pub fells : ℕ → Bool
fells state = nat_le DOWN (state + DAMAGE)

-- the state of who had this damage and is hit in this frame
abbrev pub state_after_hit : ℕ → ℕ → ℕ
state_after_hit state frame = if fells state then DOWN + frame + FRAMES_DOWN else state + DAMAGE

-- who fired, with a point more, up to 4,294,967,295
abbrev pub with_point : Rec → Rec
with_point me = record me { score = min 4294967295 (me.score + 1) }

-- who fired at somebody with this damage
abbrev pub shooter_after : ℕ → Rec → Rec
shooter_after state me = if fells state then with_point me else me

-- after a player is hit: its id is first among those that were got, and its new state last
abbrev pub after_hit : ℕ → Walk → Rec → Walk
after_hit frame w r =
    walk_of (shooter_after r.state w.me) (w.states ++ new_state r.id (state_after_hit r.state frame) ∷ []) (r.id ∷ w.got)
    w.ended

-- after a shot has met this: only a player that isn't down is hurt
abbrev pub after_meeting : ℕ → Walk → Option Rec → Walk
after_meeting frame w None = w
after_meeting frame w (Some r) = if stands r then after_hit frame w r else w

-- ---- a shot

-- who fires, with one of its ammunition spent
abbrev pub with_shot_spent : Rec → Rec
with_shot_spent me = record me { ammo = me.ammo - 1 }

-- the walk after which a shot is fired, with that shot spent
abbrev pub walk_after_shot : Walk → Walk
walk_after_shot w = walk_of (with_shot_spent w.me) w.states w.got w.ended

-- what a shot does that is fired after this walk: one of the ammunition is spent, and what the shot meets first is hit
abbrev pub shot : List Bounds → List Rec → Command → Walk → Walk
shot fixed near c w =
    after_meeting c.frame (walk_after_shot w)
    (target_of (shot_box w.me.origin) (way_along c.wish_x c.wish_y) fixed near)

-- after the shot of a move, if one is fired
abbrev pub after_shot : List Bounds → List Rec → Command → Walk → Walk
after_shot fixed near c w = if is_fired c w then shot fixed near c w else w
