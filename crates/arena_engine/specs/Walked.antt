-- The lines of a map were read, and a recording of players that walk on it was written.
use Rattle.std.specs.Prelude.{◌≡◌, ◌≤◌, ◌⊎◌, ℕ, true, false, List, [], length, Option, Some, None, IfSome, IsSomeAnd}
use Rattle.std.specs.List.{AllByRecursion}
use Rattle.std.specs.Io.KnownBytes.{Appends, Consumes}
use Rattle.edge_io.specs.declared.source.Source as sources
use Rattle.edge_io.specs.declared.sink.Sink as sinks
use Rattle.edge_io.specs.Lines.{HasNoLineFeed, HasNotReadAhead, ahead}
use Rattle.edge_io.specs.WholeLines.{all_but_last}
use Rattle.edge_io.specs.Writes.{AppendsPart}
use Rattle.arena_map.specs.Maps.{MapView, IsMap}
use Rattle.demo_lines.specs.declared.demo_stop.DemoStop.{DemoStop}
use Rattle.demo_lines.specs.Known.{start, is_over}
use Rattle.demo_lines.specs.Recording.{after, events_of}
use Rattle.demo_lines.specs.Bytes.{events, map_of}
use Rattle.demo_lines.specs.Reads.{IsTextOf, TakesCutEnd, EndsAt, OnRefused}
use Rattle.demo_walk.specs.WalkedFrames.{walk_text}
use Rattle.arena_engine.specs.declared.report.Report.{Report}
use Rattle.arena_engine.specs.Endings.{IsOrMemory}
use Rattle.arena_engine.specs.MapReads.{GivesStop}
use Rattle.arena_engine.specs.Output.{ReadsToRefusal}
use Rattle.arena_engine.specs.Reports.{refusal_of}
use Rattle.arena_engine.specs.Serving.{NothingFailed}

-- ---- reading

-- lines were taken from the source up to the first event, the first frame or the end of the recording, and no others. No
-- more was read than the last read had to give and the input's end wasn't given in this call (same_end), or an `end`
-- without its line feed was taken, and the input's end was given (at_end)
pub record ReadsToFirstEvent {S : Type 0} (old new : S) (last : ℕ) (same_end at_end : Type 0)
    (left_before left : Option (List ℕ)) : Type 0 where
  pub lines : List (List ℕ)
  pub text : List ℕ
  pub buffered : List ℕ
  pub each : AllByRecursion HasNoLineFeed lines
  pub spelled : IsTextOf lines text (ahead buffered left)
  pub consumed : Consumes left_before (ahead buffered left) text
  pub one_event : length (events_of start lines) ≡ 1
  pub going : is_over (after start (all_but_last lines)).stage ≡ false
  pub none_before : events_of start (all_but_last lines) ≡ []
  pub needed : (HasNotReadAhead old new last [] buffered × same_end)
      ⊎ (TakesCutEnd left_before (ahead buffered left) × at_end)

-- the bytes begin with the lines of a map without a fault, up to the first frame or the end, and P of the map
pub record BeginsWithMap (bytes : List ℕ) (P : MapView → Type 0) : Type 0 where
  pub map : MapView
  pub map_is : map_of bytes ≡ Some map
  pub some_event : events bytes ≡ [] → ⊥
  pub holds : P map

module _ {S : Type 0} (s : sources.Ghosts S) (source source' : S) where
  -- this map was read, up to the first frame or the end
  pub record GivesFirstMap (m : MapView) : Type 0 where
    pub begins : IfSome (s.left source) (λ bytes. BeginsWithMap bytes (λ map. map ≡ m))
    pub read : ReadsToFirstEvent source source' (s.last source') (s.ended source' ≡ s.ended source)
        (s.ended source' ≡ true) (s.left source) (s.left source')
    pub reads : s.faults source' ≡ s.faults source

  -- the reader stopped before the first event
  pub record StopsBefore (stop : DemoStop) : Type 0 where
    pub stops : GivesStop s source source' stop
    pub ends : OnRefused stop (λ why. IfSome (s.left source) (EndsAt start why))

-- ---- the command

-- the lines of a map were read from this source, and the recording in which so many players walk on it in so many frames,
-- by the words of this seed, was written to this sink
pub record IsWalked {S K : Type 0} (s : sources.Ghosts S) (k : sinks.Ghosts K) (seed players frames : ℕ)
    (source source' : S) (sink sink' : K) (r : Report) : Type 0 where
  -- its status is none of those that only other commands give
  pub known : r.status ≤ 5
  -- the input begins with a map without a fault, and the recording was written
  pub done : r.status ≡ 0 → IfSome (s.left source) (λ bytes. BeginsWithMap bytes (λ m.
      IsMap m × Appends (k.taken sink) (k.taken sink') (walk_text m seed players frames)))
  -- it was read to its first frame or its end, and no more than the last read had to give
  pub read : (r.status ≡ 0) ⊎ (r.status ≡ 4) → ReadsToFirstEvent source source' (s.last source')
      (s.ended source' ≡ s.ended source) (s.ended source' ≡ true) (s.left source) (s.left source')
  -- it has a fault before any frame, and the report has that line and its fault
  pub refused : r.status ≡ 1 → IfSome (s.left source) (EndsAt start (refusal_of r))
  -- it was read to the faulty line, and no more than the last read had to give
  pub refused_read : r.status ≡ 1 → ReadsToRefusal source source' (s.last source')
      (s.ended source' ≡ s.ended source) (s.ended source' ≡ true) (s.left source) (s.left source')
  -- it begins with a map without a fault, and a proper part of the recording was written
  pub cut : r.status ≡ 4 → IfSome (s.left source) (λ bytes. BeginsWithMap bytes (λ m.
      AppendsPart (k.taken sink) (k.taken sink') (walk_text m seed players frames)))
  -- nothing was written
  pub nothing : (r.status ≡ 1) ⊎ (r.status ≡ 3) ⊎ (r.status ≡ 5) → sink' ≡ sink
  -- no frame was run
  pub no_frame : r.last ≡ None
  -- journals of all frames are kept for `match` alone
  pub no_journals : r.all ≡ []
  -- no write fails where there is room for the recording
  pub sure_writes : IsSomeAnd (s.left source) (λ bytes. IsSomeAnd (map_of bytes) (λ m.
      length (walk_text m seed players frames) ≤ k.room sink)) → r.status ≡ 4 → ⊥
  -- where nothing failed, an input that gives an event had its recording written, unless memory was refused
  pub complete : IsSomeAnd (s.left source) (λ bytes. events bytes ≡ [] → ⊥)
      → NothingFailed (s.faults source) (s.faults source') (k.faults sink) (k.faults sink') → IsOrMemory r.status 0
  -- where nothing failed, one that gives none was refused, unless memory was
  pub complete_refusal : IsSomeAnd (s.left source) (λ bytes. events bytes ≡ [])
      → NothingFailed (s.faults source) (s.faults source') (k.faults sink) (k.faults sink') → IsOrMemory r.status 1
