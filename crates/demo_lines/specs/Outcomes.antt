-- What a call of a reader gives, outcome by outcome. Of a reader that had ended or stopped before, what asks for `IsOpen`
-- says nothing.
use Rattle.std.specs.Prelude.{◌≡◌, ◌⊎◌, ℕ, ◌≤◌, ◌<◌, Bool, true, List, [], ◌∷◌, Option, Some, None, Result, IfSome}
use Rattle.std.specs.Result.{result_err}
use Rattle.std.specs.Io.KnownBytes.{IsAtEnd}
use Rattle.edge_io.specs.declared.source.Source as sources
use Rattle.edge_io.specs.Counts.{HasRisen}
use Rattle.edge_io.specs.Lines.{ahead, HasNotReadAhead}
use Rattle.demo_lines.specs.declared.event.Event.{Event}
use Rattle.demo_lines.specs.declared.event.EventKind.{EventKind}
use Rattle.demo_lines.specs.declared.event.Event.TheVariants.{End}
use Rattle.demo_lines.specs.declared.demo_stop.DemoStop.{DemoStop}
use Rattle.demo_lines.specs.Known.{Reading}
use Rattle.demo_lines.specs.Recording.{lines_left}
use Rattle.demo_lines.specs.Bytes.{LineRefusal}
use Rattle.demo_lines.specs.Readings.{IsReading}
use Rattle.demo_lines.specs.Reads.{DemoReaderView, IsOpen, Reads, ReadsFront, ReadsQuietly, TakesCutEnd, Refuses, EndsAt}
use Rattle.demo_lines.specs.Reads.{KeepsMap, OnRefused, OnReadFault, OnNoMemory, stage_after}

-- a reader that keeps no stop
abbrev pub reader_without_stop : List ℕ → Reading → Bool → DemoReaderView
reader_without_stop pending reading cut = record { pending = pending; reading = reading; stop = None; cut = cut }

-- a reader after a call that gave this: it keeps the stop
abbrev pub reader_after : List ℕ → Reading → Bool → Result EventKind DemoStop → DemoReaderView
reader_after pending reading cut result =
    record { pending = pending; reading = reading; stop = result_err result; cut = cut }

module _ {S : Type 0} (s : sources.Ghosts S) where
  -- what is ahead of the reader
  abbrev pub ahead_of : DemoReaderView → S → Option (List ℕ)
  ahead_of demo source = ahead demo.pending (s.left source)

  -- no more was read than the last read had to give, and the source hasn't given its end in this call
  abbrev pub IsNeeded : (old new : DemoReaderView) → (source source' : S) → Type 0
  IsNeeded old new source source' =
      HasNotReadAhead source source' (s.last source') old.pending new.pending × (s.ended source' ≡ s.ended source)

  -- an event was given
  pub record GivesEvent (old new : DemoReaderView) (source source' : S) (e : Event) : Type 0 where
    pub event : IsOpen old → Reads old.reading new.reading (ahead_of old source) (ahead_of new source') (e ∷ [])
    pub stage : new.reading.stage ≡ stage_after e
    pub fewer : IsOpen old → lines_left new.reading < lines_left old.reading
    pub needed : IsOpen old → IsNeeded old new source source'
        ⊎ ((e ≡ End) × TakesCutEnd (ahead_of old source) (ahead_of new source') × (s.ended source' ≡ true))
    pub cut : IsOpen old → ((new.cut ≡ old.cut) × (s.ended source' ≡ s.ended source))
        ⊎ ((e ≡ End) × (new.cut ≡ true) × IsAtEnd (ahead_of new source'))
    pub map : KeepsMap old.reading new.reading
    pub uncounted : s.faults source' ≡ s.faults source
    pub keeps : s.never_fails source → s.never_fails source'
    pub ok : new.stop ≡ None
    pub holds : IsReading new.reading

  -- a line was refused
  pub record IsRefusedBy (old new : DemoReaderView) (source source' : S) (why : LineRefusal) : Type 0 where
    pub refused : IsOpen old → IfSome (ahead_of old source) (EndsAt old.reading why)
    pub taken : IsOpen old → Refuses old.reading (ahead_of old source) (ahead_of new source') why.line
        (IsNeeded old new source source') (s.ended source' ≡ true)
    pub uncounted : s.faults source' ≡ s.faults source

  -- a read failed
  pub record FailsToRead (old : DemoReaderView) (source source' : S) : Type 0 where
    pub read_fault : IsOpen old → ReadsFront old.reading (ahead_of old source) (s.left source') []
    pub no_end : s.ended source' ≡ s.ended source
    pub fault : IsOpen old → HasRisen (s.faults source) (s.faults source')
    pub sure : IsOpen old → s.never_fails source → ⊥

  -- memory for the map was refused
  pub record WantsMemory (old new : DemoReaderView) (source source' : S) : Type 0 where
    pub memory : IsOpen old → ReadsQuietly old.reading (ahead_of old source) (ahead_of new source')
    pub no_end : s.ended source' ≡ s.ended source
    pub uncounted : s.faults source' ≡ s.faults source

  -- the reader stopped, and keeps why
  pub record IsStoppedBy (old new : DemoReaderView) (source source' : S) (stop : DemoStop) : Type 0 where
    pub refused : OnRefused stop (IsRefusedBy old new source source')
    pub read_fault : OnReadFault stop (FailsToRead old source source')
    pub memory : OnNoMemory stop (WantsMemory old new source source')
    pub later : s.faults source ≤ s.faults source'
    pub keeps : s.never_fails source → s.never_fails source'
    pub err : new.stop ≡ Some stop
    pub cut_kept : new.cut ≡ old.cut
    pub holds : IsReading new.reading
