-- The last `did` line of a player in a frame, and where its `to` line shows it.
use Rattle.std.specs.Prelude.{◌≡◌, ◌≢◌, ℕ, List, [], ◌∷◌, ◌++◌, Option, Some, Ok, All, Contains}
use Rattle.arena_geo.specs.declared.vec3.Vec3.{Vec3}
use Rattle.entity_recs.specs.declared.rec.Rec.{Rec}
use Rattle.world_tree.specs.Live.{record_at}
use Rattle.snapshot_write.specs.declared.snapshot.Snapshot.{Snapshot}
use Rattle.snapshot_write.specs.Reading.{reading}
use Rattle.out_text.specs.Dids.{Did}
use Rattle.out_text.specs.OutLines.{OutLine, FrameLine, FromLine, NoLine, JoinedLine, DidLine, ToLine, EndLine}
use Rattle.out_text.specs.ToLines.{Reply, replies_in}

-- what the `did` lines among lines report, in their order
abbrev pub moves_in : List OutLine → List Did
moves_in [] = []
moves_in (FrameLine frame ∷ lines) = moves_in lines
moves_in (FromLine port bytes ∷ lines) = moves_in lines
moves_in (NoLine place why ∷ lines) = moves_in lines
moves_in (JoinedLine port slot ∷ lines) = moves_in lines
moves_in (DidLine did ∷ lines) = did ∷ moves_in lines
moves_in (ToLine slot bytes ∷ lines) = moves_in lines
moves_in (EndLine frames ∷ lines) = moves_in lines

-- a `did` line among the lines reports this move, and none after it reports one of the same slot
pub record IsLastMove (lines : List OutLine) (d : Did) : Type 0 where
  pub before : List Did
  pub after : List Did
  pub moves_are : moves_in lines ≡ before ++ d ∷ after
  pub last : All (λ (other : Did). other.slot ≢ d.slot) after

-- there is a `to` line for this slot, and what one is read as has the player at this origin
pub record IsShownAt (lines : List OutLine) (slot : ℕ) (origin : Vec3) : Type 0 where
  pub reply : Reply
  pub listed : Contains (replies_in lines) reply
  pub to_slot : reply.slot ≡ slot
  pub each : (other : Reply) (s : Snapshot) → Contains (replies_in lines) other → other.slot ≡ slot
      → reading other.bytes ≡ Ok s → s.own.origin ≡ origin

-- the record with this id is live, at this origin
pub record IsLiveAt (records : List (Option Rec)) (id : ℕ) (origin : Vec3) : Type 0 where
  pub now : Rec
  pub live : record_at records id ≡ Some now
  pub origin_is : now.origin ≡ origin
