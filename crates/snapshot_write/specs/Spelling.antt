-- What a snapshot is as bytes.
use Rattle.std.specs.Prelude.{◌≡◌, ℕ, ◌^◌, ◌<◌, ◌≤◌, ◌==◌, nat_lt, drop, Bool, true, false, ◌||◌, List, [], ◌∷◌, ◌++◌}
use Rattle.std.specs.Prelude.{length, map, flat_map}
use Rattle.std.specs.List.{list_all, list_any, zip}
use Rattle.std.specs.Int.{w16, to_le_bytes}
use Rattle.arena_geo.specs.Vectors.{Fits}
use Rattle.entity_recs.specs.declared.limits.TheConstants.{IDS}
use Rattle.entity_recs.specs.declared.kind.Kind.TheVariants.{Player}
use Rattle.entity_recs.specs.declared.rec.Rec.{Rec}
use Rattle.entity_recs.specs.declared.bodies.TheConstants.{PLAYER_MINS, PLAYER_MAXS}
use Rattle.entity_recs.specs.Kinds.{number_of, is_item}
use Rattle.entity_recs.specs.Records.{HasCorners}
use Rattle.snapshot_write.specs.declared.seen.TheConstants.{MOST_SEEN}
use Rattle.snapshot_write.specs.declared.seen.Seen.{Seen}
use Rattle.snapshot_write.specs.declared.snapshot.Snapshot.{Snapshot}
use Rattle.snapshot_write.specs.Snapshots.{vector_bytes, own_bytes}

-- 1 for what is there, and 0 for an item that was taken
abbrev pub status_of : Bool → ℕ
status_of true = 1
status_of false = 0

-- the 16 bytes of an entity: id, kind, status, origin
abbrev pub block_of : Seen → List ℕ
block_of s = to_le_bytes w16 s.id ++ number_of s.kind ∷ status_of s.here ∷ vector_bytes s.origin

-- the entities after their number
abbrev pub blocks_of : List Seen → List ℕ
blocks_of seen = to_le_bytes w16 (length seen) ++ flat_map block_of seen

-- the spelling of a snapshot: the player's own bytes, and those of what it sees
abbrev pub spelling : Snapshot → List ℕ
spelling s = own_bytes s.frame s.own ++ blocks_of s.seen

-- a player's record as snapshots show it: with a player's body and state 0, and its fields in their ranges
pub record IsOwn (me : Rec) : Type 0 where
  pub slot : me.id ≤ 63
  pub kind : me.kind ≡ Player
  pub origin : Fits me.origin
  pub body : HasCorners PLAYER_MINS PLAYER_MAXS me.mins me.maxs
  pub vel : Fits me.vel
  pub flags : me.flags ≤ 3
  pub ammo : me.ammo ≤ 100
  pub carry : me.carry ≤ 8
  pub score : me.score < 2 ^ 32
  pub seq : me.seq < 2 ^ 32
  pub state : me.state ≡ 0

-- an entity as snapshots show it: only an item can be taken
pub record IsSeen (s : Seen) : Type 0 where
  pub id : s.id < IDS
  pub origin : Fits s.origin
  pub here : (s.here || is_item s.kind) ≡ true

-- each entity is as snapshots show it
abbrev pub AreSeen : List Seen → Type 0
AreSeen [] = Unit {0}
AreSeen (s ∷ seen) = IsSeen s × AreSeen seen

-- the ids of entities
abbrev pub ids_of : List Seen → List ℕ
ids_of seen = map (λ (s : Seen). s.id) seen

-- each number is below the next one
abbrev pub is_rising : List ℕ → Bool
is_rising numbers = list_all (λ p. nat_lt p.0 p.1) (zip numbers (drop 1 numbers))

-- a snapshot in its range: the entities are in rising id, at most as many as a snapshot shows, and the player isn't among them
pub record IsSnapshot (s : Snapshot) : Type 0 where
  pub frame : s.frame < 2 ^ 32
  pub own : IsOwn s.own
  pub count : length s.seen ≤ MOST_SEEN
  pub seen : AreSeen s.seen
  pub rising : is_rising (ids_of s.seen) ≡ true
  pub others : list_any (λ id. id == s.own.id) (ids_of s.seen) ≡ false

-- the bytes spell the snapshot
pub record Spells (bytes : List ℕ) (s : Snapshot) : Type 0 where
  pub in_range : IsSnapshot s
  pub spelled : bytes ≡ spelling s
