-- The fields of a snapshot, at their places in its bytes.
use Rattle.std.specs.Prelude.{ℕ, ℤ, ◌+◌, ◌*◌, ◌==◌, if◌then◌else◌, List, [], ◌∷◌, drop}
use Rattle.std.specs.Int.{w16, w32, cast_signed, from_le_bytes}
use Rattle.std.specs.Simd.{first_chunks}
use Rattle.arena_geo.specs.declared.vec3.Vec3.{Vec3}
use Rattle.arena_geo.specs.Vectors.{vector}
use Rattle.entity_recs.specs.declared.kind.Kind.{Kind}
use Rattle.entity_recs.specs.declared.kind.Kind.TheVariants.{Player, Ammo, Gem, Teleporter, Goal, Lift}
use Rattle.byte_lists.specs.Bytes.{byte}

-- the number of 16 bits at i, low byte first
abbrev pub short_at : List ℕ → ℕ → ℕ
short_at bytes i = from_le_bytes w16 (byte bytes i ∷ byte bytes (i + 1) ∷ [])

-- the number of 32 bits at i, low byte first
abbrev pub number_at : List ℕ → ℕ → ℕ
number_at bytes i =
    from_le_bytes w32 (byte bytes i ∷ byte bytes (i + 1) ∷ byte bytes (i + 2) ∷ byte bytes (i + 3) ∷ [])

-- the number of 32 bits with a sign at i
abbrev pub signed_at : List ℕ → ℕ → ℤ
signed_at bytes i = cast_signed w32 (number_at bytes i)

-- the three coordinates at i
abbrev pub vector_at : List ℕ → ℕ → Vec3
vector_at bytes i = vector (signed_at bytes i) (signed_at bytes (i + 4)) (signed_at bytes (i + 8))

-- how many entities the bytes announce
abbrev pub count_in : List ℕ → ℕ
count_in bytes = short_at bytes 41

-- how many bytes a snapshot with so many entities has
abbrev pub length_with : ℕ → ℕ
length_with count = 43 + 16 * count

-- the blocks of 16 bytes that come after the first 43 bytes, one for each entity
abbrev pub blocks_in : List ℕ → List (List ℕ)
blocks_in bytes = first_chunks 16 (count_in bytes) (drop 43 bytes)

-- the id in a block
abbrev pub id_in : List ℕ → ℕ
id_in block = short_at block 0

-- the kind with a number of at most 5
abbrev pub kind_of : ℕ → Kind
kind_of number =
    if number == 0 then Player
    else if number == 1 then Ammo
    else if number == 2 then Gem
    else if number == 3 then Teleporter
    else if number == 4 then Goal
    else Lift
