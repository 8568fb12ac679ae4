-- A recording that was read to its end, with its frames.
use Rattle.std.specs.Prelude.{◌≡◌, ◌⊎◌, ℕ, Bool, true, false, List, [], IsSome}
use Rattle.edge_io.specs.declared.source.Source as sources
use Rattle.edge_io.specs.Lines.{ahead, HasNotReadAhead}
use Rattle.demo_lines.specs.declared.event.Event.{Event}
use Rattle.demo_lines.specs.declared.event.Event.TheVariants.{Frame, From, End}
use Rattle.demo_lines.specs.declared.stage.Stage.TheVariants.{Ended}
use Rattle.demo_lines.specs.Known.{start_within}
use Rattle.demo_lines.specs.Readings.{IsReading}
use Rattle.demo_lines.specs.Reads.{DemoReaderView, Reads, TakesCutEnd}
use Rattle.demo_lines.specs.Rest.{HasRest}
use Rattle.out_text.specs.Collecting.{Frames, frames_of_events}

-- the event is the recording's end
abbrev pub is_last : Event → Bool
is_last Frame = false
is_last (From a) = false
is_last End = true

-- a recording that may have so many frames was read to its end, and these are its frames
pub record ReadsRecording {S : Type 0} (s : sources.Ghosts S) (limit : ℕ) (source source' : S) (demo : DemoReaderView) (frames : Frames) : Type 0 where
  pub events : List Event
  pub reads : Reads (start_within limit) demo.reading (s.left source) (ahead demo.pending (s.left source')) events
  pub frames_are : frames ≡ frames_of_events events
  pub ended : demo.reading.stage ≡ Ended
  pub may : HasRest demo (ahead demo.pending (s.left source'))
  pub before_end : demo.cut ≡ false → s.ended source' ≡ s.ended source
  pub needed : (HasNotReadAhead source source' (s.last source') [] demo.pending × (s.ended source' ≡ s.ended source))
      ⊎ (TakesCutEnd (s.left source) (ahead demo.pending (s.left source')) × (s.ended source' ≡ true))
  pub map : IsSome demo.reading.map
  pub holds : IsReading demo.reading
  pub uncounted : s.faults source' ≡ s.faults source
  pub keeps : s.never_fails source → s.never_fails source'
