-- What a report says of a recording that was played.
use Rattle.std.specs.Prelude.{◌≡◌, ℕ, [], Result, Ok, Err}
use Rattle.demo_lines.specs.declared.line_refusal.LineRefusal.{LineRefusal}
use Rattle.playback.specs.Playbacks.{entries_if}
use Rattle.arena_engine.specs.declared.stop.Stop.{Stop}
use Rattle.arena_engine.specs.declared.stop.Stop.TheVariants.{Refused, ReadFault, WriteFault, NoMemory}
use Rattle.arena_engine.specs.declared.played.Played.{Played}
use Rattle.arena_engine.specs.declared.report.Report.{Report}
use Rattle.arena_engine.specs.Feedings.{Last}

-- the refused line, its fault, and the rule of the map that it breaks
abbrev pub refusal_of : Report → LineRefusal
refusal_of r = record { line = r.line; fault = r.fault; rule = r.rule }

-- the order of arrival and the journal of the last frame
abbrev pub last_in : Report → Last
last_in r = record { order = r.order; journal = entries_if r.last }

-- ---- how playing ended

-- those of the last frame that was run
abbrev pub last_of : Played → Last
last_of played = record { order = played.order; journal = entries_if played.last }

-- the status of each end
abbrev pub status_of : Result Unit Stop → ℕ
status_of (Ok done) = 0
status_of (Err (Refused why)) = 1
status_of (Err ReadFault) = 3
status_of (Err WriteFault) = 4
status_of (Err NoMemory) = 5

-- the line that was refused, its fault and its rule, and 0 for each where none was
abbrev pub place_of : Result Unit Stop → LineRefusal
place_of (Ok done) = record { line = 0; fault = 0; rule = 0 }
place_of (Err (Refused why)) = why
place_of (Err ReadFault) = record { line = 0; fault = 0; rule = 0 }
place_of (Err WriteFault) = record { line = 0; fault = 0; rule = 0 }
place_of (Err NoMemory) = record { line = 0; fault = 0; rule = 0 }

-- the report of a recording whose playing ended so
pub record IsReportOf (played : Played) (r : Report) : Type 0 where
  pub status : r.status ≡ status_of played.ended
  pub place : refusal_of r ≡ place_of played.ended
  pub last : r.last ≡ played.last
  pub order : r.order ≡ played.order
  pub no_journals : r.all ≡ []
