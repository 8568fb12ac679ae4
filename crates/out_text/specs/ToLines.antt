-- The replies that the `to` lines of a frame have.
use Rattle.std.specs.Prelude.{◌≡◌, ℕ, List, [], ◌∷◌, map, take, Option}
use Rattle.std.specs.List.Sorted.{IsStrictlyIncreasing}
use Rattle.entity_recs.specs.declared.rec.Rec.{Rec}
use Rattle.world_tree.specs.Live.{live_in}
use Rattle.snapshot_write.specs.Snapshots.{snapshot}
use Rattle.out_text.specs.OutLines.{OutLine, FrameLine, FromLine, NoLine, JoinedLine, DidLine, ToLine, EndLine}

-- the bytes that are sent to a slot
pub record Reply : Type 0 where
  pub slot : ℕ
  pub bytes : List ℕ

-- what the `to` lines among lines say, in their order
abbrev pub replies_in : List OutLine → List Reply
replies_in [] = []
replies_in (FrameLine frame ∷ lines) = replies_in lines
replies_in (FromLine port bytes ∷ lines) = replies_in lines
replies_in (NoLine place why ∷ lines) = replies_in lines
replies_in (JoinedLine port slot ∷ lines) = replies_in lines
replies_in (DidLine did ∷ lines) = replies_in lines
replies_in (ToLine slot bytes ∷ lines) = record { slot = slot; bytes = bytes } ∷ replies_in lines
replies_in (EndLine frames ∷ lines) = replies_in lines

-- the snapshot of a player among all live records, to its slot
abbrev pub reply_to : ℕ → List Rec → Rec → Reply
reply_to frame live me = record { slot = me.id; bytes = snapshot frame me live }

-- the lines have one `to` line for each live record with an id below 64, with its snapshot, in rising id
pub record HasOneReplyEach (frame : ℕ) (records : List (Option Rec)) (lines : List OutLine) : Type 0 where
  pub replies : replies_in lines ≡ map (reply_to frame (live_in records)) (live_in (take 64 records))
  pub rising : IsStrictlyIncreasing (map (λ (r : Reply). r.slot) (replies_in lines))
