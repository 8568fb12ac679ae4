-- A recording as bytes: its lines, their events, its map, and the first fault.
use Rattle.std.specs.Prelude.{ℕ, ◌+◌, true, List, [], ◌∷◌, ◌++◌, Option, Some, None, option_map, if◌then◌else◌}
use Rattle.std.specs.List.{slice_split}
use Rattle.edge_io.specs.WholeLines.{is_line_feed, whole_lines}
use Rattle.arena_map.specs.Maps.{MapView}
use Rattle.demo_lines.specs.declared.stage.Stage.{Stage}
use Rattle.demo_lines.specs.declared.stage.Stage.TheVariants.{Start, Map, Playing, Ended, Refused}
use Rattle.demo_lines.specs.declared.line_fault.LineFault.{LineFault}
pub use Rattle.demo_lines.specs.declared.line_refusal.LineRefusal.{LineRefusal}
use Rattle.demo_lines.specs.declared.event.Event.{Event}
use Rattle.demo_lines.specs.Known.{Reading, start_within, start}
use Rattle.demo_lines.specs.Lines.{is_end}
use Rattle.demo_lines.specs.Faults.{fault_of, fault_number, rule_number}
use Rattle.demo_lines.specs.Recording.{after, events_of}

-- the last of some parts
abbrev pub last_of : List (List ℕ) → List ℕ
last_of [] = []
last_of (part ∷ []) = part
last_of (part ∷ other ∷ parts) = last_of (other ∷ parts)

-- what no line feed ends, at the end of the bytes
abbrev pub last_part : List ℕ → List ℕ
last_part bytes = last_of (slice_split is_line_feed bytes)

-- what no line feed ends is a line where it is the end
abbrev pub cut_end : List ℕ → List (List ℕ)
cut_end part = if is_end part then part ∷ [] else []

-- the lines of bytes: those that a line feed ends, and the end without one
abbrev pub lines_of : List ℕ → List (List ℕ)
lines_of bytes = whole_lines bytes ++ cut_end (last_part bytes)

-- the refusal of this line for this fault
abbrev pub refusal : ℕ → LineFault → LineRefusal
refusal line why = record { line = line; fault = fault_number why; rule = rule_number why }

-- the refusal of what is known, where the bytes end here, after this part without a line feed
abbrev pub refused_at : Stage → Reading → List ℕ → Option LineRefusal
refused_at Start r part = option_map (refusal (r.lines + 1)) (fault_of r true part)
refused_at Map r part = option_map (refusal (r.lines + 1)) (fault_of r true part)
refused_at Playing r part = option_map (refusal (r.lines + 1)) (fault_of r true part)
refused_at Ended r part = None
refused_at (Refused why) r part = Some (refusal r.lines why)

-- the same, by the stage that it is at
abbrev pub refused_where : Reading → List ℕ → Option LineRefusal
refused_where r part = refused_at r.stage r part

-- the events of bytes, from what was read before
abbrev pub events_in : Reading → List ℕ → List Event
events_in r bytes = events_of r (lines_of bytes)

-- the first faulty line, from what was read before
abbrev pub fault_in : Reading → List ℕ → Option LineRefusal
fault_in r bytes = refused_where (after r (lines_of bytes)) (last_part bytes)

-- the events of a recording that may have so many frames: up to its end, or up to the line before the faulty one
abbrev pub events_within : ℕ → List ℕ → List Event
events_within limit bytes = events_in (start_within limit) bytes

-- its first faulty line, before or at the first `end`, and its fault
abbrev pub fault_within : ℕ → List ℕ → Option LineRefusal
fault_within limit bytes = fault_in (start_within limit) bytes

-- its map
abbrev pub map_within : ℕ → List ℕ → Option MapView
map_within limit bytes = (after (start_within limit) (lines_of bytes)).map

-- the same of a recording that may have as many frames as any
abbrev pub events : List ℕ → List Event
events bytes = events_in start bytes

abbrev pub fault : List ℕ → Option LineRefusal
fault bytes = fault_in start bytes

abbrev pub map_of : List ℕ → Option MapView
map_of bytes = (after start (lines_of bytes)).map
