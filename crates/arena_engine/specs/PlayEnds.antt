-- How the playing of a recording ended, and what was read and written then.
use Rattle.std.specs.Prelude.{◌≡◌, ◌≤◌, true, Result, Ok, Err, IfSome, IsSomeAnd}
use Rattle.edge_io.specs.declared.source.Source as sources
use Rattle.edge_io.specs.declared.sink.Sink as sinks
use Rattle.edge_io.specs.Counts.{HasRisen}
use Rattle.demo_lines.specs.declared.line_refusal.LineRefusal.{LineRefusal}
use Rattle.arena_engine.specs.declared.stop.Stop.{Stop}
use Rattle.arena_engine.specs.declared.stop.Stop.TheVariants.{Refused, ReadFault, WriteFault, NoMemory}
use Rattle.arena_engine.specs.Output.{Writes, ReadsSome, ReadsToEnd, ReadsToRefusal}
use Rattle.arena_engine.specs.Feedings.{Last}
use Rattle.arena_engine.specs.Texts.{Texts}

module _ {S K : Type 0} (s : sources.Ghosts S) (k : sinks.Ghosts K) (texts : Texts) (source source' : S) (sink sink' : K)
    (last : Last) where
  -- it was played to its end: its output was written, and it was read to its line `end`
  pub record PlaysAll : Type 0 where
    pub output : IfSome (s.left source) (λ bytes. Writes (k.taken sink) (k.taken sink') (texts.whole bytes last))
    pub read : ReadsToEnd source source' (s.last source') (s.ended source' ≡ s.ended source)
        (s.ended source' ≡ true) (s.left source) (s.left source')
    pub reads : s.faults source' ≡ s.faults source
    pub writes : k.faults sink' ≡ k.faults sink

  -- a line was refused: the frames before it were written, and it was read to this line
  pub record StopsAtRefusal (why : LineRefusal) : Type 0 where
    pub output : IfSome (s.left source) (λ bytes. Writes (k.taken sink) (k.taken sink') (texts.refused bytes why last))
    pub read : ReadsToRefusal source source' (s.last source') (s.ended source' ≡ s.ended source)
        (s.ended source' ≡ true) (s.left source) (s.left source')
    pub reads : s.faults source' ≡ s.faults source
    pub writes : k.faults sink' ≡ k.faults sink

  -- the source failed: the frames that the lines before it close were written
  pub record StopsAtReadFault : Type 0 where
    pub output : ReadsSome (λ bytes. texts.all_frames bytes last) (s.left source) (s.left source') (k.taken sink) (k.taken sink')
    pub front : IfSome (s.left source) (λ bytes. Writes (k.taken sink) (k.taken sink') (texts.some_frames bytes last))
    pub same_end : s.ended source' ≡ s.ended source
    pub fault : HasRisen (s.faults source) (s.faults source')
    pub later : s.faults source ≤ s.faults source'
    pub fails : s.never_fails source → ⊥
    pub writes : k.faults sink' ≡ k.faults sink

  -- the sink failed: a part of the first frames was written, all of which but the last are whole
  pub record StopsAtWriteFault : Type 0 where
    pub output : IfSome (s.left source) (λ bytes. Writes (k.taken sink) (k.taken sink') (texts.cut bytes last))
    pub fault : HasRisen (k.faults sink) (k.faults sink')
    pub later : k.faults sink ≤ k.faults sink'
    pub no_room : IsSomeAnd (s.left source) (λ bytes. texts.has_room bytes (k.room sink)) → ⊥
    pub reads : s.faults source' ≡ s.faults source

  -- memory was refused: some of the first frames were written
  pub record StopsAtMemory : Type 0 where
    pub output : IfSome (s.left source) (λ bytes. Writes (k.taken sink) (k.taken sink') (texts.some_frames bytes last))
    pub reads : s.faults source' ≡ s.faults source
    pub writes : k.faults sink' ≡ k.faults sink

  -- what holds where the playing ended so, and this is the last frame that was run
  abbrev pub PlaysTo : Result Unit Stop → Type 0
  PlaysTo (Ok done) = PlaysAll
  PlaysTo (Err (Refused why)) = StopsAtRefusal why
  PlaysTo (Err ReadFault) = StopsAtReadFault
  PlaysTo (Err WriteFault) = StopsAtWriteFault
  PlaysTo (Err NoMemory) = StopsAtMemory
