-- The near list from the words of players kept by slot, and from the states of things that were loaded.
use Rattle.std.specs.Prelude.{ℕ, ◌≡◌, ◌+◌, ◌≤◌, ◌==◌, nat_lt, nat_le, ◌&&◌, not, if◌then◌else◌, List, [], ◌∷◌, map, filter}
use Rattle.std.specs.Prelude.{length, get_or, Option, Some, None}
use Rattle.std.specs.List.{filter_map}
use Rattle.arena_geo.specs.Bounds.{Bounds}
use Rattle.arena_geo.specs.Regions.{touches_region}
use Rattle.entity_recs.specs.declared.limits.TheConstants.{IDS}
use Rattle.entity_recs.specs.declared.rec.Rec.{Rec}
use Rattle.entity_recs.specs.declared.effect.NewState.{NewState}
use Rattle.entity_recs.specs.Bodies.{abs_of}
use Rattle.areanode.specs.Words.{has_bit}
use Rattle.core_seats.specs.NearRecords.{touching_one}
use Rattle.core_steps.specs.Nodes.{Fixed}
use Rattle.core_steps.specs.Reads.{record_read, player_of, state_at, thing_of, things_in}

-- the words kept of the player in this slot, where its bit is set
abbrev pub kept_at : ℕ → List (List ℕ) → ℕ → Option (List ℕ)
kept_at seen by_slot slot = if has_bit seen slot then Some (get_or by_slot slot []) else None

-- the record of the words kept of this slot, where it touches a region
abbrev pub near_player : List Bounds → List (List ℕ) → ℕ → Option Rec
near_player region by_slot slot = touching_one region (Some (record_read slot (get_or by_slot slot [])))

-- the slots of the live players but this one, rising
abbrev pub other_players : Fixed → ℕ → List ℕ
other_players F slot = filter (λ id. nat_lt id 64 && not (id == slot)) F.start.ids

-- the records of the words kept of live players but this one that touch a region, in rising slot
abbrev pub players_kept : Fixed → List Bounds → ℕ → ℕ → List (List ℕ) → List Rec
players_kept F region slot seen by_slot =
    filter (λ r. touches_region (abs_of r) region)
    (filter_map (λ id. player_of id (kept_at seen by_slot id)) (other_players F slot))

-- the records of the things of the map that a region touches, with the states that were loaded, in rising id
abbrev pub things_loaded : Fixed → List Bounds → List NewState → List Rec
things_loaded F region states =
    filter_map (λ id. thing_of (F.start.record_of id) (state_at states id)) (things_in F region)

-- each of the records is the one that a function gives at its id
abbrev pub AreAtIds : (ℕ → Rec) → List Rec → Type 0
AreAtIds f [] = Unit {0}
AreAtIds f (r ∷ rs) = (f r.id ≡ r) × AreAtIds f rs

-- the records are those of the things of the map at the start, in rising id
pub record AreThings (F : Fixed) (things : List Rec) : Type 0 where
  pub ids : map (λ (r : Rec). r.id) things ≡ filter (nat_le 64) F.start.ids
  pub found : AreAtIds F.start.record_of things
  pub few : length things + 64 ≤ IDS

-- the thing of the map with the state that was loaded of it, where it was
abbrev pub thing_with : List NewState → Rec → Option Rec
thing_with states r = thing_of r (state_at states r.id)

-- those of the records whose absolute box touches a region
abbrev pub records_touching : List Bounds → List Rec → List Rec
records_touching region = filter (λ r. touches_region (abs_of r) region)
