-- An action over one item and a teleporter: a command may move its player to a fixed place, and takes the free item.
use Rattle.std.specs.Prelude.{ℕ, ◌==◌, ◌%◌, ◌+◌, ◌&&◌, Bool, false, nat_le, nat_lt, if◌then◌else◌, List, [], ◌∷◌}
use Rattle.std.specs.List.{list_any}
use Rattle.arena_geo.specs.Vectors.{zero_vector, is_near, is_same_vector}
use Rattle.arena_geo.specs.Bounds.{Bounds}
use Rattle.entity_recs.specs.declared.bodies.TheConstants.{ITEM_MINS, ITEM_MAXS}
use Rattle.entity_recs.specs.declared.kind.Kind.{Kind}
use Rattle.entity_recs.specs.declared.kind.Kind.TheVariants.{Player, Gem}
use Rattle.entity_recs.specs.declared.rec.Rec.{Rec}
use Rattle.entity_recs.specs.declared.effect.Effect.{Effect}
use Rattle.entity_recs.specs.declared.effect.NewState.{NewState}
use Rattle.entity_recs.specs.Bodies.{abs_of}
use Rattle.entity_recs.specs.Commands.{Command}
use Rattle.entity_recs.specs.Actions.{Meaning}
use Rattle.trial_outcomes.specs.Staying.{is_player}
use Rattle.trial_outcomes.specs.declared.places.TheConstants.{ARRIVAL, ITEM}

-- the item's id, place and shape
abbrev pub is_placed : Rec → Bool
is_placed r =
    (r.id == 64) && is_same_vector r.origin ITEM.origin && is_same_vector r.mins ITEM_MINS && is_same_vector r.maxs ITEM_MAXS

-- the item, at its place and with its shape, whatever its state
abbrev pub is_the_item : Rec → Bool
is_the_item r =
    is_placed r && is_near 512000 r.vel && nat_le r.flags 3 && nat_le r.ammo 100 && nat_le r.carry 8
    && nat_lt r.score 4294967296

-- a record of this kind is taken: players within their bounds and the one item are
abbrev pub is_taken : Kind → Rec → Bool
is_taken Player r = is_player r && nat_lt r.seq 4294967296
is_taken Gem r = is_the_item r && nat_lt r.seq 4294967296
is_taken _ _ = false

-- which records are taken
abbrev pub takes : Rec → Bool
takes r = is_taken r.kind r

-- the player at rest at the place of arrival
abbrev pub player_at_arrival : Rec → Rec
player_at_arrival me = record me { origin = ARRIVAL; vel = zero_vector }

-- the player's box, its box at the place of arrival, and the item's box
abbrev pub region_of : Rec → Command → List Bounds
region_of me c = abs_of me ∷ abs_of (player_at_arrival me) ∷ abs_of ITEM ∷ []

-- the player with this number, at the place of arrival or where it is
abbrev pub moved_where : Bool → Rec → ℕ → Rec
moved_where away me seq = if away then record (player_at_arrival me) { seq = seq } else record me { seq = seq }

-- the player after a command: at the place of arrival where bit 0 of the buttons is set
abbrev pub player_after : Rec → Command → Rec
player_after me c = moved_where (c.buttons % 2 == 1) me c.seq

-- the record is that of the item, which is free
abbrev pub is_free_item : Rec → Bool
is_free_item r = (r.id == 64) && (r.state == 0)

-- the item, where it is taken in this frame, returns in the next one
abbrev pub new_states : Bool → ℕ → List NewState
new_states free frame = if free then record { id = 64; state = frame + 1 } ∷ [] else []

-- the ids of the items that are got
abbrev pub ids_got : Bool → List ℕ
ids_got free = if free then 64 ∷ [] else []

-- the effect of a command, where the item is free or not
abbrev pub effect_where : Bool → Rec → Command → Effect
effect_where free me c = record {
  me = player_after me c;
  states = new_states free c.frame;
  reply = record { origin = (player_after me c).origin; got = ids_got free };
}

-- the player is moved, and the item among the other records is taken where it is free
abbrev pub effect_of : Rec → List Rec → Command → Effect
effect_of me near c = effect_where (list_any is_free_item near) me c

-- what the action means
abbrev pub meaning : Meaning
meaning = record { takes = takes; region_of = region_of; effect_of = effect_of }
