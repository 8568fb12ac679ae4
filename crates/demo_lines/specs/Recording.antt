-- A recording as a machine over lines: what is known after each, the events of each, and how many more can follow.
use Rattle.std.specs.Prelude.{ℕ, ◌+◌, ◌-◌, ◌*◌, Bool, true, false, List, [], ◌∷◌, length, Option, Some, None, count_by}
use Rattle.std.specs.Prelude.{if◌then◌else◌}
use Rattle.packet_read.specs.declared.arrival.TheConstants.{MOST_ARRIVALS}
use Rattle.arena_map.specs.declared.limits.TheConstants.{MOST_BLOCKS, MOST_BOXES, MOST_FRAMES, MOST_ITEMS, MOST_SPAWNS, MOST_THINGS}
use Rattle.arena_map.specs.declared.map_line.MapLine.{MapLine}
use Rattle.arena_map.specs.Maps.{MapView}
use Rattle.arena_map.specs.MapLines.{is_item_line, is_teleport_line, is_goal_line, is_lift_line}
use Rattle.arena_map.specs.Rules.{begun_map, with_line}
use Rattle.demo_lines.specs.declared.stage.Stage.{Stage}
use Rattle.demo_lines.specs.declared.stage.Stage.TheVariants.{Start, Map, Playing, Ended, Refused}
use Rattle.demo_lines.specs.declared.line_fault.LineFault.{LineFault}
use Rattle.demo_lines.specs.declared.line_fault.LineFault.TheVariants as faults
use Rattle.demo_lines.specs.declared.event.Event.{Event}
use Rattle.demo_lines.specs.declared.event.Event.TheVariants as events
use Rattle.demo_lines.specs.declared.line.Line.{Line}
use Rattle.demo_lines.specs.declared.line.Line.TheVariants.{OfMap, Frame, From, End}
use Rattle.demo_lines.specs.Known.{Reading, start, is_over, at_stage, with_map, with_frame, with_arrival}
use Rattle.demo_lines.specs.Lines.{line_in}
use Rattle.demo_lines.specs.Faults.{fault_of}
use Rattle.demo_lines.specs.Machines.{run_of, outputs_of}

-- the map with this line, which begins it where there is none yet
abbrev pub with_map_line : Option MapView → MapLine → Option MapView
with_map_line None line = begun_map line
with_map_line (Some map) line = Some (with_line map line)

-- after a line that has no fault; a line that says nothing has one
abbrev pub after_line : Reading → Option Line → Reading
after_line r None = at_stage (Refused faults.Form) r
after_line r (Some (OfMap line)) = with_map r (with_map_line r.map line)
after_line r (Some Frame) = with_frame r
after_line r (Some (From a)) = with_arrival r
after_line r (Some End) = at_stage Ended r

-- after a line with this fault, or with none
abbrev pub after_test : Reading → Option LineFault → Option Line → Reading
after_test r None line = after_line r line
after_test r (Some why) line = at_stage (Refused why) r

-- after a line; nothing changes after the end or a refused line
abbrev pub next : Reading → List ℕ → Reading
next r raw = if is_over r.stage then r else after_test r (fault_of r false raw) (line_in raw)

-- the events of an accepted line
abbrev pub event_of : Option Line → List Event
event_of None = []
event_of (Some (OfMap line)) = []
event_of (Some Frame) = events.Frame ∷ []
event_of (Some (From a)) = events.From a ∷ []
event_of (Some End) = events.End ∷ []

-- the event opens a frame
abbrev pub opens_frame : Event → Bool
opens_frame events.Frame = true
opens_frame (events.From a) = false
opens_frame events.End = false

-- the events of a line with this fault, or with none
abbrev pub events_of_test : Option LineFault → Option Line → List Event
events_of_test None line = event_of line
events_of_test (Some why) line = []

-- the events of a line: none where it is refused or ignored
abbrev pub events_of_line : Reading → List ℕ → List Event
events_of_line r raw = if is_over r.stage then [] else events_of_test (fault_of r false raw) (line_in raw)

-- after lines
abbrev pub after : Reading → List (List ℕ) → Reading
after r lines = run_of next r lines

-- the events of lines
abbrev pub events_of : Reading → List (List ℕ) → List Event
events_of r lines = outputs_of next events_of_line r lines

-- at most so many more lines of frames and packets can follow this many frames
abbrev pub frames_left : ℕ → ℕ
frames_left frames = (MOST_FRAMES - frames) * (1 + MOST_ARRIVALS)

-- at most so many more things can be added to a map
abbrev pub things_left : List MapLine → ℕ
things_left things =
    (MOST_ITEMS - count_by is_item_line things) + (MOST_BOXES - count_by is_teleport_line things) + (MOST_BOXES - count_by is_goal_line things)
    + (MOST_BOXES - count_by is_lift_line things)

-- at most so many more lines of settings can be added to a map: one that names the depth, one that lets players shoot, and
-- one that says how many blocks there may be
abbrev pub settings_left : MapView → ℕ
settings_left map = (1 - map.depth_lines) + (1 - map.shots_lines) + (1 - map.limit_lines)

-- at most so many more lines can be added to a map
abbrev pub map_lines_left : Option MapView → ℕ
map_lines_left None = MOST_BLOCKS + MOST_SPAWNS + MOST_THINGS + 3
map_lines_left (Some map) =
    (MOST_BLOCKS - length map.blocks) + (MOST_SPAWNS - length map.spawns) + things_left map.things + settings_left map

-- at most so many more lines can follow at this stage, the end or a refused line among them
abbrev pub left_at : Stage → Reading → ℕ
left_at Start r = frames_left r.frames + map_lines_left None + 2
left_at Map r = frames_left r.frames + map_lines_left r.map + 1
left_at Playing r = frames_left r.frames + (MOST_ARRIVALS - r.arrivals) + 1
left_at Ended r = 0
left_at (Refused why) r = 0

-- at most so many more lines can follow
-- Exact at the start, so it also bounds how many lines a recording has, to the line.
abbrev pub lines_left : Reading → ℕ
lines_left r = left_at r.stage r

-- the most lines of a recording, its end or its refused line among them
abbrev pub most_lines : ℕ
most_lines = lines_left start
