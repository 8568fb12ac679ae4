-- A world: what is live, and the record of each.
use Rattle.std.specs.Prelude.{◌≡◌, ℕ, ◌==◌, not, List, [], ◌∷◌, map, filter, All, pos, Option, Some, None, if◌then◌else◌}
use Rattle.std.specs.List.Sorted.{IsStrictlyIncreasing}
use Rattle.arena_geo.specs.declared.vec3.Vec3.{Vec3}
use Rattle.entity_recs.specs.declared.kind.Kind.TheVariants.{Player}
use Rattle.entity_recs.specs.declared.rec.Rec.{Rec}
use Rattle.entity_recs.specs.Records.{IsRecord}

-- the ids of all live records, which rise where the world is valid, and the record of each
pub record World : Type 0 where
  pub ids : List ℕ
  pub record_of : ℕ → Rec

-- all live records in rising id
abbrev pub records_of : World → List Rec
records_of w = map w.record_of w.ids

-- the live ids rise, each live record has its own id, and it is within its bounds
pub record HasRecordsInBounds (w : World) : Type 0 where
  pub rising : IsStrictlyIncreasing w.ids
  pub own : All (λ id. (w.record_of id).id ≡ id) w.ids
  pub bounds : All IsRecord (records_of w)

-- all live records but one, in rising id
abbrev pub others_of : World → ℕ → List Rec
others_of w id = map w.record_of (filter (λ other. not (other == id)) w.ids)

-- 0 on all axes
abbrev pub zero_vector : Vec3
zero_vector = record { x = pos 0; y = pos 0; z = pos 0 }

-- the record of an id that isn't live
abbrev pub nobody : Rec
nobody = record {
  id = 0;
  kind = Player;
  origin = zero_vector;
  mins = zero_vector;
  maxs = zero_vector;
  vel = zero_vector;
  flags = 0;
  ammo = 0;
  carry = 0;
  score = 0;
  seq = 0;
  state = 0;
}

-- the record of a place, and nobody's where the place is empty
abbrev pub record_or_nobody : Option Rec → Rec
record_or_nobody None = nobody
record_or_nobody (Some r) = r

-- the first of the records with this id
abbrev pub record_with : List Rec → ℕ → Rec
record_with [] id = nobody
record_with (r ∷ rs) id = if r.id == id then r else record_with rs id

-- the world of these records, which are in rising id
abbrev pub world_of : List Rec → World
world_of records = record { ids = map (λ r. r.id) records; record_of = record_with records }
