-- What a player sees at the end of a frame, and the bytes of its snapshot.
use Rattle.std.specs.Prelude.{ℕ, Bool, ◌&&◌, not, ◌==◌, List, [], ◌∷◌, ◌++◌, length, filter, flat_map, Option, Some, None, ℤ, pos}
use Rattle.std.specs.Prelude.{if◌then◌else◌}
use Rattle.std.specs.Int.{to_le_bytes, cast_unsigned, w16, w32}
use Rattle.arena_geo.specs.declared.vec3.Vec3.{Vec3}
use Rattle.arena_geo.specs.Vectors.{plus, minus, vector}
use Rattle.arena_geo.specs.Bounds.{Bounds, bounds}
use Rattle.arena_geo.specs.Boxes.{touches}
use Rattle.entity_recs.specs.declared.rec.Rec.{Rec}
use Rattle.entity_recs.specs.declared.kind.Kind.{Kind}
use Rattle.entity_recs.specs.declared.kind.Kind.TheVariants.{Ammo, Gem}
use Rattle.entity_recs.specs.Kinds.{number_of}
use Rattle.entity_recs.specs.Bodies.{abs_of}

-- how far a player sees on each axis, in sub-units
abbrev pub sight : Vec3
sight = vector (pos 262144) (pos 262144) (pos 131072)

-- the box that a player at this origin sees
abbrev pub view_of : Vec3 → Bounds
view_of origin = bounds (minus origin sight) (plus origin sight)

-- the absolute box of the record touches the view, and the record is another's
abbrev pub is_seen : Rec → Rec → Bool
is_seen me r = touches (abs_of r) (view_of me.origin) && not (r.id == me.id)

-- the absolute box of the record touches this view, and the record isn't that of this id
abbrev pub is_in_view : Bounds → ℕ → Rec → Bool
is_in_view view me r = touches (abs_of r) view && not (r.id == me)

-- the record of a place, if there is one and it is in the view
abbrev pub in_view_at : Bounds → ℕ → Option Rec → Option Rec
in_view_at view me None = None
in_view_at view me (Some r) = if is_in_view view me r then Some r else None

-- the records in the view: what the player with this id sees, where the view is its own
abbrev pub in_view : Bounds → ℕ → List Rec → List Rec
in_view view me records = filter (is_in_view view me) records

-- what a player sees, of all live records in rising id
abbrev pub seen_by : Rec → List Rec → List Rec
seen_by me records = filter (is_seen me) records

-- 0 for an item that was taken, and else 1
abbrev pub status_at : Kind → ℕ → ℕ
status_at Ammo state = if state == 0 then 1 else 0
status_at Gem state = if state == 0 then 1 else 0
status_at _ _ = 1

-- a number of 32 bits with a sign, low byte first
abbrev pub signed_bytes : ℤ → List ℕ
signed_bytes z = to_le_bytes w32 (cast_unsigned w32 z)

abbrev pub vector_bytes : Vec3 → List ℕ
vector_bytes v = signed_bytes v.x ++ signed_bytes v.y ++ signed_bytes v.z

-- the bytes of a thing that is seen
abbrev pub entity_bytes : Rec → List ℕ
entity_bytes r = to_le_bytes w16 r.id ++ number_of r.kind ∷ status_at r.kind r.state ∷ vector_bytes r.origin

-- the version, the frame and the slot
abbrev pub head_bytes : ℕ → ℕ → List ℕ
head_bytes frame slot = 1 ∷ [] ++ to_le_bytes w32 frame ++ slot ∷ []

-- what the player has, and the number of its last command
abbrev pub count_bytes : Rec → List ℕ
count_bytes me = me.flags ∷ me.ammo ∷ me.carry ∷ [] ++ to_le_bytes w32 me.score ++ to_le_bytes w32 me.seq

-- the bytes of the player itself
abbrev pub own_bytes : ℕ → Rec → List ℕ
own_bytes frame me = head_bytes frame me.id ++ vector_bytes me.origin ++ vector_bytes me.vel ++ count_bytes me

-- the entities after their number
abbrev pub seen_bytes : List Rec → List ℕ
seen_bytes seen = to_le_bytes w16 (length seen) ++ flat_map entity_bytes seen

-- the snapshot of a player among all live records, version 1, low bytes first
abbrev pub snapshot : ℕ → Rec → List Rec → List ℕ
snapshot frame me records = own_bytes frame me ++ seen_bytes (seen_by me records)
