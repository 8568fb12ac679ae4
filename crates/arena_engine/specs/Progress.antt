-- How far a recording was played: what holds between two of its events.
use Rattle.std.specs.Prelude.{◌≡◌, ◌⊎◌, ℕ, ◌+◌, ◌≤◌, Bool, true, List, [], ◌∷◌, ◌++◌, length, Option, Some, None, Result, IfSome}
use Rattle.std.specs.Io.KnownBytes.{Appends}
use Rattle.entity_recs.specs.declared.effect.Entry.{Entry}
use Rattle.edge_io.specs.declared.source.Source as sources
use Rattle.edge_io.specs.declared.sink.Sink as sinks
use Rattle.edge_io.specs.Lines.{ahead, HasNotReadAhead}
use Rattle.arena_map.specs.declared.limits.TheConstants.{MOST_FRAMES}
use Rattle.arena_map.specs.Maps.{MapView, IsMap}
use Rattle.packet_read.specs.declared.arrival.TheConstants.{MOST_ARRIVALS}
use Rattle.packet_read.specs.declared.arrival.Arrival.{Arrival}
use Rattle.plain_server.specs.RecordsById.{opening}
use Rattle.plain_server.specs.Frames.{state_played}
use Rattle.frame_phases.specs.Servers.{ServerView}
use Rattle.demo_lines.specs.declared.event.Event.{Event}
use Rattle.demo_lines.specs.declared.event.Event.TheVariants.{End}
use Rattle.demo_lines.specs.Known.{Reading, start, without_map}
use Rattle.demo_lines.specs.Reads.{DemoReaderView, Reads, TakesCutEnd, stage_after}
use Rattle.out_text.specs.Collecting.{frames_of_events}
use Rattle.out_text.proofs.Fronts.{AreRun}
use Rattle.arena_engine.specs.declared.stop.Stop.{Stop}
use Rattle.arena_engine.specs.declared.feeding.Feeding.{Feeding}
use Rattle.arena_engine.specs.Feedings.{Last, AreFed, IsLastOf, MayHaveOrder, fed_text}
use Rattle.arena_engine.specs.Games.{GameView}
use Rattle.arena_engine.specs.Texts.{texts_of}
use Rattle.arena_engine.specs.PlayEnds.{PlaysTo}

-- the server is that of an arena after these frames, with these journals
pub record IsServerAt (arena : MapView) (closed : List (List Arrival)) (js : List (List Entry)) (server : ServerView) : Type 0 where
  pub map : server.map ≡ arena
  pub state : server.state ≡ state_played arena 0 (opening arena) closed js
  pub frames : server.frames ≡ length closed

-- how far a recording was played: these events were, in this order of arrival and with these journals, and this one comes
-- next
pub record Progress (feeding : Feeding) (workers : ℕ) (arena : MapView) (reading : Reading) (before later : Option (List ℕ)) (taken_before taken : Option (List ℕ)) (game : GameView) (event : Event) : Type 0 where
  pub events : List Event
  pub reads : Reads start reading before later (events ++ event ∷ [])
  pub stage : reading.stage ≡ stage_after event
  pub frames : reading.frames ≤ MOST_FRAMES
  pub arrivals : reading.arrivals ≤ MOST_ARRIVALS
  pub map : reading.map ≡ Some arena
  pub is_map : IsMap arena
  pub few : IfSome (frames_of_events events).opened (λ arrivals. length arrivals ≤ MOST_ARRIVALS)
  pub feeds : List (List Arrival)
  pub fed : AreFed feeding (frames_of_events events).closed feeds
  pub journals : List (List Entry)
  pub run : AreRun workers arena feeds journals
  pub at : IsServerAt arena feeds journals game.course.server
  pub opened : game.course.opened ≡ (frames_of_events events).opened
  pub last_is : IsLastOf feeding game.last (frames_of_events events).closed feeds journals
  pub written : Appends taken_before taken (fed_text feeding arena feeds journals)

-- how far the recording was played, by a reader whose map was given out; neither count of faults has changed, and what room the sink was sure to have is that
-- which it has and the text so far
pub record Runs (feeding : Feeding) (workers : ℕ) (demo : DemoReaderView) (before ahead : Option (List ℕ)) (taken_before taken : Option (List ℕ)) (game : GameView) (event : Event)
    (reads_before reads writes_before writes room_before room : ℕ) : Type 0 where
  pub arena : MapView
  pub full : Reading
  pub given : demo.reading ≡ without_map full
  pub progress : Progress feeding workers arena full before ahead taken_before taken game event
  pub no_stop : demo.stop ≡ None
  pub read_same : reads ≡ reads_before
  pub write_same : writes ≡ writes_before
  pub roomy : room_before ≤ room + length (fed_text feeding arena progress.feeds progress.journals)

-- how the source was read: no more than was needed, and without its end, but for an end without a line feed; and it is as sure
-- as before
pub record ReadsAsNeeded {S : Type 0} (last : S → ℕ) (ended : S → Bool) (sure : S → Type 0) (a b : Option (List ℕ)) (old new : S) (pending : List ℕ) (e : Event) : Type 0 where
  pub needed : (HasNotReadAhead old new (last new) [] pending × (ended new ≡ ended old)) ⊎ ((e ≡ End) × TakesCutEnd a b × (ended new ≡ true))
  pub keeps : sure old → sure new

-- this event is to be played: those before it were, from this source and into this sink as they were at the start, and
-- no more was read than was needed
pub record IsNext {S K : Type 0} (s : sources.Ghosts S) (k : sinks.Ghosts K) (feeding : Feeding) (workers : ℕ) (first_source source : S)
    (first_sink sink : K) (demo : DemoReaderView) (game : GameView) (event : Event) : Type 0 where
  pub runs : Runs feeding workers demo (s.left first_source) (ahead demo.pending (s.left source)) (k.taken first_sink)
      (k.taken sink) game event (s.faults first_source) (s.faults source) (k.faults first_sink) (k.faults sink)
      (k.room first_sink) (k.room sink)
  pub needed : ReadsAsNeeded s.last s.ended s.never_fails (s.left first_source) (ahead demo.pending (s.left source))
      first_source source demo.pending event

-- it is to be played, after whatever start
pub record MayGoOn {S K : Type 0} (s : sources.Ghosts S) (k : sinks.Ghosts K) (feeding : Feeding) (workers : ℕ) (source : S) (sink : K)
    (demo : DemoReaderView) (game : GameView) (event : Event) : Type 0 where
  pub first_source : S
  pub first_sink : K
  pub is_next : IsNext s k feeding workers first_source source first_sink sink demo game event

-- from this event on the recording was played, and ended so, seen from each start after which this event is the next
abbrev pub PlaysOn : {S K : Type 0} → sources.Ghosts S → sinks.Ghosts K → Feeding → ℕ → S → S → K → K → DemoReaderView → GameView
    → Event → Last → Result Unit Stop → Type 0
PlaysOn {S} {K} s k feeding workers source source' sink sink' demo game event last ended =
    (first_source : S) (first_sink : K) → IsNext s k feeding workers first_source source first_sink sink demo game event
    → PlaysTo s k (texts_of feeding workers) first_source source' first_sink sink' last ended

-- so it was played on, and where packets have no order of arrival, the last frame has none
pub record PlaysFrom {S K : Type 0} (s : sources.Ghosts S) (k : sinks.Ghosts K) (feeding : Feeding) (workers : ℕ) (source source' : S) (sink sink' : K)
    (demo : DemoReaderView) (game : GameView) (event : Event) (last : Last) (ended : Result Unit Stop) : Type 0 where
  pub plays : PlaysOn s k feeding workers source source' sink sink' demo game event last ended
  pub orders : MayHaveOrder feeding game.last.order → MayHaveOrder feeding last.order
