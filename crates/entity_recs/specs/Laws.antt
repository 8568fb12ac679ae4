-- What holds of all records.
use Rattle.std.specs.Prelude.{◌≡◌, ◌≢◌, ◌⊎◌, ℕ, true, pos, neg_ℤ}
use Rattle.arena_geo.specs.declared.vec3.Vec3.{Vec3}
use Rattle.arena_geo.specs.Vectors.{vector, plus, minus}
use Rattle.arena_geo.specs.Bounds.{Bounds, bounds, IsBox}
use Rattle.arena_geo.specs.Boxes.{contains}
use Rattle.entity_recs.specs.declared.kind.Kind.{Kind}
use Rattle.entity_recs.specs.declared.kind.Kind.TheVariants.{Player, Ammo, Gem}
use Rattle.entity_recs.specs.declared.rec.Rec.{Rec}
use Rattle.entity_recs.specs.declared.bodies.TheConstants.{PLAYER_MINS, PLAYER_MAXS, ITEM_MINS, ITEM_MAXS, ITEM_GROWTH}
use Rattle.entity_recs.specs.declared.bodies.TheConstants.{GROWTH}
use Rattle.entity_recs.specs.declared.limits.TheConstants.{SLOTS, IDS}
use Rattle.entity_recs.specs.Records.{IsRecord, with_state}
use Rattle.entity_recs.specs.Bodies.{body_of, abs_of}

-- the body and the absolute box are ordered on every axis and in range
pub record HasBoxes (r : Rec) : Type 0 where
  pub body : IsBox (body_of r)
  pub abs : IsBox (abs_of r)

-- a record within its bounds has boxes
abbrev pub RecordsHaveBoxes : Type 0
RecordsHaveBoxes = (r : Rec) → IsRecord r → HasBoxes r

-- the absolute box doesn't look at the state
abbrev pub AbsIgnoresState : Type 0
AbsIgnoresState = (r : Rec) (state : ℕ) → abs_of (with_state r state) ≡ abs_of r

-- the absolute box contains the body
abbrev pub AbsContainsBody : Type 0
AbsContainsBody = (r : Rec) → contains (abs_of r) (body_of r) ≡ true

-- the constants of bodies and of absolute boxes, and how many slots and ids there are, have these values
pub record SizesAreKnown : Type 0 where
  pub player_low : PLAYER_MINS ≡ record { x = neg_ℤ (pos 4096); y = neg_ℤ (pos 4096); z = neg_ℤ (pos 6144) }
  pub player_high : PLAYER_MAXS ≡ record { x = pos 4096; y = pos 4096; z = pos 8192 }
  pub item_low : ITEM_MINS ≡ record { x = pos 0; y = pos 0; z = pos 0 }
  pub item_high : ITEM_MAXS ≡ record { x = pos 8192; y = pos 8192; z = pos 14336 }
  pub item_growth : ITEM_GROWTH ≡ record { x = pos 3840; y = pos 3840; z = pos 0 }
  pub growth : GROWTH ≡ record { x = pos 256; y = pos 256; z = pos 256 }
  pub slots : SLOTS ≡ 64
  pub ids : IDS ≡ 512

-- an item: ammunition or a gem
abbrev pub IsItem : Kind → Type 0
IsItem kind = (kind ≡ Ammo) ⊎ (kind ≡ Gem)

-- on both sides of each axis the box reaches this much farther than the other
pub record IsLargerBy (by : Vec3) (b other : Bounds) : Type 0 where
  pub low : b.lo ≡ minus other.lo by
  pub high : b.hi ≡ plus other.hi by

-- an item's absolute box is larger than its body by 3,840 on x and y alone, every other one by 256 on all axes
pub record HasKnownAbs (r : Rec) : Type 0 where
  pub item : IsItem r.kind → IsLargerBy (vector (pos 3840) (pos 3840) (pos 0)) (abs_of r) (body_of r)
  pub other : r.kind ≢ Ammo → r.kind ≢ Gem → IsLargerBy (vector (pos 256) (pos 256) (pos 256)) (abs_of r) (body_of r)

-- players have one body and items another, seen from their origins; what else there is has its low corner there
pub record HasKnownBody (r : Rec) : Type 0 where
  pub player : r.kind ≡ Player
      → body_of r ≡ bounds
      (plus r.origin (vector (neg_ℤ (pos 4096)) (neg_ℤ (pos 4096)) (neg_ℤ (pos 6144))))
      (plus r.origin (vector (pos 4096) (pos 4096) (pos 8192)))
  pub item : IsItem r.kind → body_of r ≡ bounds r.origin (plus r.origin (vector (pos 8192) (pos 8192) (pos 14336)))
  pub other : r.kind ≢ Player → r.kind ≢ Ammo → r.kind ≢ Gem → body_of r ≡ bounds r.origin (plus r.origin r.maxs)

-- absolute boxes have the known growths, and the bodies of records within their bounds the known places
pub record BoxesAreKnown : Type 0 where
  pub abs : (r : Rec) → HasKnownAbs r
  pub body : (r : Rec) → IsRecord r → HasKnownBody r
