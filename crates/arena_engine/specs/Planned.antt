-- A recording was read for its map, and the shortest way between two of its spawns was written.
use Rattle.std.specs.Prelude.{◌≡◌, ◌≤◌, ◌<◌, ◌⊎◌, ℕ, true, List, [], length, Option, Some, None, IfSome, IsSome, IsSomeAnd}
use Rattle.edge_io.specs.declared.source.Source as sources
use Rattle.edge_io.specs.declared.sink.Sink as sinks
use Rattle.edge_io.specs.Writes.{AppendsPart}
use Rattle.arena_map.specs.Maps.{MapView, IsMap}
use Rattle.demo_lines.specs.Bytes.{fault, map_of}
use Rattle.bot_ways.specs.declared.plan.Plan.{Plan}
use Rattle.bot_ways.specs.declared.writing.TheConstants.{MOST_PLAN_BYTES}
use Rattle.bot_ways.specs.Walks.{IsUnreached}
use Rattle.bot_ways.specs.Ways.{IsCertificate}
use Rattle.bot_ways.specs.PlanTexts.{IsPlanTo, least_line, plan_text}
use Rattle.arena_engine.specs.declared.report.Report.{Report}
use Rattle.arena_engine.specs.Endings.{IsOrMemory}
use Rattle.arena_engine.specs.Output.{Writes, ReadsToEnd, ReadsToRefusal}
use Rattle.arena_engine.specs.Reports.{refusal_of}
use Rattle.arena_engine.specs.Serving.{NothingFailed}

-- ---- what is written

-- the text is that of a plan of the way to this waypoint: the recording of a bot that walks there, and its certificate
pub record ShowsWay (m : MapView) (target : ℕ) (text : List ℕ) : Type 0 where
  pub plan : Plan
  pub far : ℕ
  pub is_map : IsMap m
  pub is : IsPlanTo m target far plan
  pub text_is : text ≡ plan_text m plan

-- the text is the line of the least lengths of the map, and no walk leads to this waypoint, which is there
pub record ShowsNoWay (m : MapView) (target : ℕ) (text : List ℕ) : Type 0 where
  pub least : List (Option ℕ)
  pub is_map : IsMap m
  pub there : target < length m.spawns
  pub certificate : IsCertificate m least
  pub none : IsUnreached m target
  pub text_is : text ≡ least_line least

-- the text is one of the two
abbrev pub ShowsWays : MapView → ℕ → List ℕ → Type 0
ShowsWays m target text = ShowsWay m target text ⊎ ShowsNoWay m target text

-- a proper part of a text was appended, and P of that text
pub record WritesPart (old new : Option (List ℕ)) (P : List ℕ → Type 0) : Type 0 where
  pub text : List ℕ
  pub written : AppendsPart old new text
  pub holds : P text

-- the bytes are a recording without a fault, and P of its map
pub record HasMap (bytes : List ℕ) (P : MapView → Type 0) : Type 0 where
  pub map : MapView
  pub map_is : map_of bytes ≡ Some map
  pub faultless : fault bytes ≡ None
  pub holds : P map

-- so much room is enough for whatever is to be written
abbrev pub HasRoomForWays : ℕ → ℕ → MapView → Type 0
HasRoomForWays room target m = (text : List ℕ) → ShowsWays m target text → length text ≤ room

-- ---- the command

-- a recording from this source was read, and a plan of the way from its first spawn to this one was written to this sink
pub record IsPlanned {S K : Type 0} (s : sources.Ghosts S) (k : sinks.Ghosts K) (target : ℕ) (source source' : S) (sink sink' : K)
    (r : Report) : Type 0 where
  -- its status isn't the one that only `check` and `audit` give
  pub known : r.status ≡ 6 → ⊥
  -- the recording has no fault, and the text of a plan was written
  pub done : r.status ≡ 0 → IfSome (s.left source) (λ bytes. HasMap bytes (λ m.
      Writes (k.taken sink) (k.taken sink') (ShowsWay m target)))
  -- it has no fault and no such spawn, and nothing was written
  pub no_spawn : r.status ≡ 7 → r.fault ≡ 1
      → IfSome (s.left source) (λ bytes. HasMap bytes (λ m. length m.spawns ≤ target)) × (sink' ≡ sink)
  -- it has no fault and such a spawn, but no walk leads there; the least lengths were written, which show it
  pub no_walk : r.status ≡ 7 → r.fault ≡ 2 → IfSome (s.left source) (λ bytes. HasMap bytes (λ m.
      Writes (k.taken sink) (k.taken sink') (ShowsNoWay m target)))
  -- it was read to its line `end`, and no more than the last read had to give
  pub read : (r.status ≡ 0) ⊎ (r.status ≡ 4) ⊎ (r.status ≡ 7) → ReadsToEnd source source' (s.last source')
      (s.ended source' ≡ s.ended source) (s.ended source' ≡ true) (s.left source) (s.left source')
  -- it has a fault, and the report has that line and its fault
  pub refused : r.status ≡ 1 → IfSome (s.left source) (λ bytes. fault bytes ≡ Some (refusal_of r))
  -- it was read to the faulty line, and no more than the last read had to give
  pub refused_read : r.status ≡ 1 → ReadsToRefusal source source' (s.last source')
      (s.ended source' ≡ s.ended source) (s.ended source' ≡ true) (s.left source) (s.left source')
  -- it has no fault, and a proper part of what was to be written was
  pub cut : r.status ≡ 4 → IfSome (s.left source) (λ bytes. HasMap bytes (λ m.
      WritesPart (k.taken sink) (k.taken sink') (ShowsWays m target)))
  -- nothing was written
  pub nothing : (r.status ≡ 1) ⊎ (r.status ≡ 3) ⊎ (r.status ≡ 5) → sink' ≡ sink
  -- no frame was run
  pub no_frame : r.last ≡ None
  -- journals of all frames are kept for `match` alone
  pub no_journals : r.all ≡ []
  -- no write fails where there is room for what is to be written of the map
  pub sure_writes : IsSomeAnd (s.left source) (λ bytes. IsSomeAnd (map_of bytes) (HasRoomForWays (k.room sink) target))
      → r.status ≡ 4 → ⊥
  -- nor where there is room for the longest text
  pub sure_longest : MOST_PLAN_BYTES ≤ k.room sink → r.status ≡ 4 → ⊥
  -- where nothing failed, a recording without a fault had its ways planned, unless memory was refused
  pub complete : IsSomeAnd (s.left source) (λ bytes. fault bytes ≡ None)
      → NothingFailed (s.faults source) (s.faults source') (k.faults sink) (k.faults sink')
      → IsOrMemory r.status 0 ⊎ (r.status ≡ 7)
  -- where nothing failed, one with a fault was refused, unless memory was
  pub complete_refusal : IsSomeAnd (s.left source) (λ bytes. IsSome (fault bytes))
      → NothingFailed (s.faults source) (s.faults source') (k.faults sink) (k.faults sink') → IsOrMemory r.status 1
