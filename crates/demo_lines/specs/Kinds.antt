-- A line and an event whose packet stands beside it.
use Rattle.std.specs.Prelude.{Option, Some, None, Result, Ok, Err}
use Rattle.packet_read.specs.declared.arrival.Arrival.{Arrival}
use Rattle.demo_lines.specs.declared.event.Event.{Event}
use Rattle.demo_lines.specs.declared.event.Event.TheVariants as events
use Rattle.demo_lines.specs.declared.event.EventKind.{EventKind}
use Rattle.demo_lines.specs.declared.event.EventKind.TheVariants as kinds
use Rattle.demo_lines.specs.declared.line.Line.{Line}
use Rattle.demo_lines.specs.declared.line.Line.TheVariants as lines
use Rattle.demo_lines.specs.declared.line.LineKind.{LineKind}
use Rattle.demo_lines.specs.declared.line.LineKind.TheVariants as line_kinds
use Rattle.demo_lines.specs.declared.line_fault.LineFault.{LineFault}

-- the event of this kind, where its packet is this one
abbrev pub event_of_kind : EventKind → Arrival → Event
event_of_kind kinds.Frame a = events.Frame
event_of_kind kinds.From a = events.From a
event_of_kind kinds.End a = events.End

-- the same, where there is one
abbrev pub event_if : Option EventKind → Arrival → Option Event
event_if None a = None
event_if (Some kind) a = Some (event_of_kind kind a)

-- the line of this kind, where its packet is this one
abbrev pub line_of_kind : LineKind → Arrival → Line
line_of_kind (line_kinds.OfMap line) a = lines.OfMap line
line_of_kind line_kinds.Frame a = lines.Frame
line_of_kind line_kinds.From a = lines.From a
line_of_kind line_kinds.End a = lines.End

-- the same, where the line has no fault
abbrev pub said_with : Arrival → Result LineKind LineFault → Result Line LineFault
said_with a (Ok kind) = Ok (line_of_kind kind a)
said_with a (Err why) = Err why
