-- Touching: what the triggers that a player touches after a move do, one after another.
use Rattle.std.specs.Prelude.{ℕ, ◌+◌, min, bit_or, Bool, true, false, nat_lt, if◌then◌else◌, List, [], ◌∷◌}
use Rattle.std.specs.Prelude.{◌++◌, length, filter, fold, Option, Some, None}
use Rattle.std.specs.Prelude.{map as map_list}
use Rattle.arena_geo.specs.declared.vec3.Vec3.{Vec3}
use Rattle.arena_geo.specs.Vectors.{zero_vector}
use Rattle.arena_geo.specs.Bounds.{Bounds}
use Rattle.arena_geo.specs.Boxes.{is_blocked}
use Rattle.entity_recs.specs.declared.effect.NewState.{NewState}
use Rattle.entity_recs.specs.declared.kind.Kind.{Kind}
use Rattle.entity_recs.specs.declared.kind.Kind.TheVariants.{Player, Ammo, Gem, Teleporter, Goal, Lift}
use Rattle.entity_recs.specs.declared.rec.Rec.{Rec}
use Rattle.entity_recs.specs.Kinds.{is_solid}
use Rattle.entity_recs.specs.Bodies.{body_of, abs_of, player_body, is_touched}
use Rattle.arena_map.specs.Maps.{MapView, solids_of, dest_of, delay_of}
use Rattle.item_rules.specs.Items.{after_item, taken_state}

-- ---- what is touched

-- the triggers that a player touches, in the order of the records
abbrev pub touched_by : Rec → List Rec → List Rec
touched_by me near = filter (is_touched (abs_of me)) near

-- the bodies of the solids among these records
abbrev pub bodies_of_solids : List Rec → List Bounds
bodies_of_solids near = map_list body_of (filter (λ r. is_solid r.kind) near)

-- what a player isn't moved into: the walls, the blocks, and the bodies of the other solids
unfoldable pub solids_among : MapView → List Rec → List Bounds
solids_among map near = solids_of map ++ bodies_of_solids near

-- ---- one trigger

-- the walk over what a player touches, so far: its record, the new states and the ids of the items that it took, and
-- whether a teleporter has moved it, which ends the walk
pub record Walk : Type 0 where
  pub me : Rec
  pub states : List NewState
  pub got : List ℕ
  pub ended : Bool

-- the walk with these parts
abbrev pub walk_of : Rec → List NewState → List ℕ → Bool → Walk
walk_of me states got ended = record { me = me; states = states; got = got; ended = ended }

-- this id, with this new state
abbrev pub new_state : ℕ → ℕ → NewState
new_state id state = record { id = id; state = state }

-- after an item is taken, if it is, which then has this new state
abbrev pub after_taking : Option ℕ → Walk → Rec → Walk
after_taking None w item = w
after_taking (Some state) w item =
    walk_of (after_item w.me item) (w.states ++ new_state item.id state ∷ []) (w.got ++ item.id ∷ []) w.ended

-- after an item with this delay is touched: it is taken where fewer than 8 were taken in this move
abbrev pub after_touched_item : Option ℕ → ℕ → Walk → Rec → Walk
after_touched_item None frame w item = w
after_touched_item (Some delay) frame w item =
    if nat_lt (length w.got) 8 then after_taking (taken_state w.me item delay frame) w item else w

-- the player at a goal: what it carries is added to its score, which ends at 4,294,967,295
abbrev pub player_after_goal : Rec → Rec
player_after_goal me = record me { carry = 0; score = min 4294967295 (me.score + me.carry) }

-- the player at the destination of a teleporter: at rest, with bit 1 of its flags set
abbrev pub leapt : Rec → Vec3 → Rec
leapt me dest = record me { origin = dest; vel = zero_vector; flags = bit_or me.flags 2 }

-- after a teleporter with this destination is touched: it is passed over where a body at its destination overlaps a
-- solid
abbrev pub after_teleporter : Option Vec3 → List Bounds → Walk → Walk
after_teleporter None solids w = w
after_teleporter (Some dest) solids w =
    if is_blocked (player_body dest) solids then w else walk_of (leapt w.me dest) w.states w.got true

-- after a record of this kind is touched
abbrev pub after_kind : Kind → MapView → List Bounds → ℕ → Walk → Rec → Walk
after_kind Player map solids frame w r = w
after_kind Ammo map solids frame w r = after_touched_item (delay_of map r.id) frame w r
after_kind Gem map solids frame w r = after_touched_item (delay_of map r.id) frame w r
after_kind Teleporter map solids frame w r = after_teleporter (dest_of map r.id) solids w
after_kind Goal map solids frame w r = walk_of (player_after_goal w.me) w.states w.got w.ended
after_kind Lift map solids frame w r = w

-- after a trigger is touched, unless the walk has ended
abbrev pub after_trigger : MapView → List Bounds → ℕ → Walk → Rec → Walk
after_trigger map solids frame w r = if w.ended then w else after_kind r.kind map solids frame w r

-- ---- all of them

-- before the first trigger
abbrev pub first_walk : Rec → Walk
first_walk me = walk_of me [] [] false

-- the walk over all triggers among these records that the player touches
unfoldable pub touched : MapView → ℕ → Rec → List Rec → Walk
touched map frame me near = fold (after_trigger map (solids_among map near) frame) (first_walk me) (touched_by me near)
