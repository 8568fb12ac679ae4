-- How a recording was read for its map, and how the ways of a map were written.
use Rattle.std.specs.Prelude.{◌≡◌, ◌≤◌, ℕ, true, length, Some, None, IfSome}
use Rattle.edge_io.specs.declared.source.Source as sources
use Rattle.edge_io.specs.declared.sink.Sink as sinks
use Rattle.edge_io.specs.Counts.{HasRisen}
use Rattle.arena_map.specs.Maps.{MapView}
use Rattle.demo_lines.specs.declared.line_refusal.LineRefusal.{LineRefusal}
use Rattle.demo_lines.specs.Bytes.{fault, map_of}
use Rattle.demo_lines.specs.declared.demo_stop.DemoStop.{DemoStop}
use Rattle.demo_lines.specs.declared.demo_stop.DemoStop.TheVariants.{Refused, ReadFault, NoMemory}
use Rattle.bot_ways.specs.declared.plan_stop.PlanStop.{PlanStop}
use Rattle.bot_ways.specs.declared.plan_stop.PlanStop.TheVariants as plan_stop
use Rattle.arena_engine.specs.declared.commands.bots.Ways.{Ways}
use Rattle.arena_engine.specs.declared.commands.bots.Ways.TheVariants.{Found, NoSpawn, NoWalk}
use Rattle.arena_engine.specs.Output.{Writes, ReadsToEnd, ReadsToRefusal}
use Rattle.arena_engine.specs.Planned.{ShowsWay, ShowsNoWay, ShowsWays, WritesPart, HasRoomForWays}

-- ---- reading

module _ {S : Type 0} (s : sources.Ghosts S) (source source' : S) where
  -- it was read to its line `end`: it has no fault, and this map
  pub record GivesMap (m : MapView) : Type 0 where
    pub faultless : IfSome (s.left source) (λ bytes. fault bytes ≡ None)
    pub map_is : IfSome (s.left source) (λ bytes. map_of bytes ≡ Some m)
    pub read : ReadsToEnd source source' (s.last source') (s.ended source' ≡ s.ended source)
        (s.ended source' ≡ true) (s.left source) (s.left source')
    pub reads : s.faults source' ≡ s.faults source

  -- a line was refused
  pub record GivesRefusal (why : LineRefusal) : Type 0 where
    pub faulty : IfSome (s.left source) (λ bytes. fault bytes ≡ Some why)
    pub read : ReadsToRefusal source source' (s.last source') (s.ended source' ≡ s.ended source)
        (s.ended source' ≡ true) (s.left source) (s.left source')
    pub reads : s.faults source' ≡ s.faults source

  -- the source failed
  pub record GivesReadFault : Type 0 where
    pub same_end : s.ended source' ≡ s.ended source
    pub fault : HasRisen (s.faults source) (s.faults source')
    pub later : s.faults source ≤ s.faults source'
    pub fails : s.never_fails source → ⊥

  -- memory was refused
  pub record GivesNoMemory : Type 0 where
    pub reads : s.faults source' ≡ s.faults source

  -- what holds where the reader stopped so
  abbrev pub GivesStop : DemoStop → Type 0
  GivesStop (Refused line fault rule) = GivesRefusal (record { line = line; fault = fault; rule = rule })
  GivesStop ReadFault = GivesReadFault
  GivesStop NoMemory = GivesNoMemory

-- ---- writing

module _ {K : Type 0} (k : sinks.Ghosts K) (m : MapView) (target : ℕ) (sink sink' : K) where
  -- the text of a plan was written
  pub record WritesWay : Type 0 where
    pub written : Writes (k.taken sink) (k.taken sink') (ShowsWay m target)
    pub writes : k.faults sink' ≡ k.faults sink

  -- there is no such spawn
  pub record WritesNothing : Type 0 where
    pub past : length m.spawns ≤ target
    pub same : sink' ≡ sink

  -- no walk leads there, and the least lengths were written
  pub record WritesLeast : Type 0 where
    pub written : Writes (k.taken sink) (k.taken sink') (ShowsNoWay m target)
    pub writes : k.faults sink' ≡ k.faults sink

  -- what was found of the ways was written
  abbrev pub WritesWays : Ways → Type 0
  WritesWays Found = WritesWay
  WritesWays NoSpawn = WritesNothing
  WritesWays NoWalk = WritesLeast

  -- the sink failed
  pub record WritesCut : Type 0 where
    pub written : WritesPart (k.taken sink) (k.taken sink') (ShowsWays m target)
    pub fault : HasRisen (k.faults sink) (k.faults sink')
    pub later : k.faults sink ≤ k.faults sink'
    pub no_room : HasRoomForWays (k.room sink) target m → ⊥

  -- what holds where the writing stopped so
  abbrev pub WritesStop : PlanStop → Type 0
  WritesStop plan_stop.WriteFault = WritesCut
  WritesStop plan_stop.NoMemory = sink' ≡ sink
