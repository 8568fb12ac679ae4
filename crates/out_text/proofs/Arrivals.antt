-- The packets that a recording gives have bytes.
use Rattle.std.proofs.Common.{ℕ, All, List, [], ◌∷◌, ◌++◌, Option, Some, None, IfSome, option_map, subst}
use Rattle.std.specs.Bool.{⊤}
use Rattle.std.specs.List.{AllByRecursion}
use Rattle.std.proofs.lemmas.List.Elements.{All-nil, All-push}
use Rattle.arena_map.specs.declared.limits.TheConstants.{MOST_FRAMES}
use Rattle.packet_read.specs.declared.arrival.Arrival.{Arrival}
use Rattle.demo_lines.specs.declared.line.Line.{Line}
use Rattle.demo_lines.specs.declared.line.Line.TheVariants.{OfMap, Frame, From, End}
use Rattle.demo_lines.specs.declared.event.Event.{Event}
use Rattle.demo_lines.specs.declared.event.Event.TheVariants as events
use Rattle.demo_lines.specs.Machines.{run_of}
use Rattle.demo_lines.specs.Known.{Reading, start_within}
use Rattle.demo_lines.specs.Recording.{next, event_of, events_of_line, events_of}
use Rattle.demo_lines.specs.Bytes.{lines_of, events_within}
use Rattle.plain_server.specs.Entries.{HasBytes}
use Rattle.out_text.specs.Collecting.{Frames, closed_frames, collect, no_frames, frames_within, frames_of}
use Rattle.out_text.proofs.Reporting.{HaveBytes}
use Rattle.out_text.proofs.Growing.{GoesOnWith}
use Rattle.out_text.proofs.Saying.{IsSound}
use Rattle.out_text.proofs.EachLine.{of_each_line}

-- ---- the events of lines

-- the packet of the event has bytes
abbrev EventBytes : Event → Type 0
EventBytes events.Frame = ⊤
EventBytes (events.From a) = HasBytes a
EventBytes events.End = ⊤

abbrev EventsBytes : List Event → Type 0
EventsBytes es = AllByRecursion EventBytes es

events_both : (es more : List Event) → EventsBytes es → EventsBytes more → EventsBytes (es ++ more)
events_both [] more p q = q
events_both (e ∷ es) more p q = (p.0, events_both es more p.1 q)

event_has_bytes : (line : Line) → IsSound line → EventsBytes (event_of (Some line))
event_has_bytes (OfMap line) h = tt
event_has_bytes Frame h = (tt, tt)
event_has_bytes (From a) h = (h.bytes, tt)
event_has_bytes End h = (tt, tt)

line_gives_bytes : (r : Reading) (line : List ℕ) → EventsBytes (events_of_line r line)
line_gives_bytes = of_each_line (λ r s es. EventsBytes es) (λ r. tt) (λ r why. tt) (λ r line is. event_has_bytes line is.sound)

-- the packets of the events of lines have bytes
pub events_have_bytes : (r : Reading) (lines : List (List ℕ)) → EventsBytes (events_of r lines)
events_have_bytes r [] = tt
events_have_bytes r (line ∷ lines) =
    events_both (events_of_line r line) (events_of (next r line) lines) (line_gives_bytes r line) (events_have_bytes (next r line) lines)

-- ---- the frames that events make

-- all packets have bytes, those of the open frame too
record FramesBytes (f : Frames) : Type 0 where
  closed : HaveBytes f.closed
  opened : IfSome f.opened (All HasBytes)

frames_both : (xs ys : List (List Arrival)) → HaveBytes xs → HaveBytes ys → HaveBytes (xs ++ ys)
frames_both [] ys p q = q
frames_both (x ∷ xs) ys p q = (p.0, frames_both xs ys p.1 q)

closing_has_bytes : (o : Option (List Arrival)) → IfSome o (All HasBytes) → HaveBytes (closed_frames o)
closing_has_bytes None p = tt
closing_has_bytes (Some arrivals) p = (p, tt)

opened_with : (o : Option (List Arrival)) (a : Arrival) → IfSome o (All HasBytes) → HasBytes a
    → IfSome (option_map (λ arrivals. arrivals ++ a ∷ []) o) (All HasBytes)
opened_with None a p q = tt
opened_with (Some arrivals) a p q = All-push HasBytes arrivals a p q

collect_has_bytes : (f : Frames) (e : Event) → FramesBytes f → EventBytes e → FramesBytes (collect f e)
collect_has_bytes f events.Frame p q =
    record { closed = frames_both f.closed (closed_frames f.opened) p.closed (closing_has_bytes f.opened p.opened); opened = All-nil HasBytes }
collect_has_bytes f (events.From a) p q = record { closed = p.closed; opened = opened_with f.opened a p.opened q }
collect_has_bytes f events.End p q =
    record { closed = frames_both f.closed (closed_frames f.opened) p.closed (closing_has_bytes f.opened p.opened); opened = tt }

run_has_bytes : (f : Frames) (es : List Event) → FramesBytes f → EventsBytes es → FramesBytes (run_of collect f es)
run_has_bytes f [] p q = p
run_has_bytes f (e ∷ es) p q = run_has_bytes (collect f e) es (collect_has_bytes f e p q.0) q.1

-- the packets of the frames of a recording that may have so many have bytes
pub frames_within_have_bytes : (limit : ℕ) (bytes : List ℕ) → HaveBytes (frames_within limit bytes)
frames_within_have_bytes limit bytes =
    (run_has_bytes no_frames (events_within limit bytes) (record { closed = tt; opened = tt }) (events_have_bytes (start_within limit) (lines_of bytes))).closed

-- and those of one that may have as many as any
pub frames_have_bytes : (bytes : List ℕ) → HaveBytes (frames_of bytes)
frames_have_bytes bytes = frames_within_have_bytes MOST_FRAMES bytes

first_have_bytes : (xs ys : List (List Arrival)) → HaveBytes (xs ++ ys) → HaveBytes xs
first_have_bytes [] ys p = tt
first_have_bytes (x ∷ xs) ys p = (p.0, first_have_bytes xs ys p.1)

-- and so have those of the first of them
pub fore_have_bytes : (closed all : List (List Arrival)) → GoesOnWith closed all → HaveBytes all → HaveBytes closed
fore_have_bytes closed all on p = let P : List (List Arrival) → Type 0 = λ fs. HaveBytes fs in first_have_bytes closed on.rest (subst P on.is p)
