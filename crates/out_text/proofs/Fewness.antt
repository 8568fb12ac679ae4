-- A recording has at most as many frames as it may have.
use Rattle.std.proofs.Common.{◌≡◌, ℕ, ◌+◌, ◌≤◌, ◌<◌, Bool, true, false, cond, nat_le, List, [], ◌∷◌, ◌++◌, length, Option, Some, None, option_map, refl, sym, ap, subst, arith, length-append}
use Rattle.std.specs.Option.{option_or}
use Rattle.std.proofs.lemmas.Bool.Decides.{nat_tests}
use Rattle.packet_read.specs.declared.arrival.Arrival.{Arrival}
use Rattle.demo_lines.specs.declared.stage.Stage.{Stage}
use Rattle.demo_lines.specs.declared.stage.Stage.TheVariants.{Start, Map, Playing, Ended, Refused}
use Rattle.demo_lines.specs.declared.line.Line.{Line}
use Rattle.demo_lines.specs.declared.line.Line.TheVariants as lines
use Rattle.demo_lines.specs.declared.line_fault.LineFault.{LineFault}
use Rattle.demo_lines.specs.declared.line_fault.LineFault.TheVariants as faults
use Rattle.demo_lines.specs.declared.event.Event.{Event}
use Rattle.demo_lines.specs.declared.event.Event.TheVariants as events
use Rattle.demo_lines.specs.Machines.{run_of}
use Rattle.demo_lines.specs.Known.{Reading, start_within, is_over}
use Rattle.demo_lines.specs.Faults.{broken_by_frame}
use Rattle.demo_lines.specs.Said.{stage_fault}
use Rattle.demo_lines.specs.Recording.{next, event_of, events_of_line, events_of}
use Rattle.demo_lines.specs.Bytes.{lines_of}
use Rattle.demo_lines.proofs.Machines.{run_of-append}
use Rattle.demo_lines.proofs.Taking.{IsTaken}
use Rattle.demo_lines.proofs.Limits.{next-limit}
use Rattle.out_text.specs.Collecting.{Frames, collect, frames_of_events, closed_frames, no_frames, frames_of}
use Rattle.out_text.proofs.EachLine.{of_each_line}
use Rattle.out_text.proofs.Agreement.{NoneYet, OneOpen, AgreesAt, Agrees, agrees_line}

-- at most so many frames are closed or open
abbrev AreFew : ℕ → Frames → Type 0
AreFew limit f = length f.closed + length (closed_frames f.opened) ≤ limit

size-arrived : (a : Arrival) (o : Option (List Arrival)) → length (closed_frames (option_map (λ arrivals. arrivals ++ a ∷ []) o)) ≡ length (closed_frames o)
size-arrived a None = refl
size-arrived a (Some arrivals) = refl

few_ended : (limit : ℕ) (f : Frames) → AreFew limit f → AreFew limit (collect f events.End)
few_ended limit f few = omega (arith, few, length-append f.closed (closed_frames f.opened))

few_arrived : (limit : ℕ) (f : Frames) (a : Arrival) → AreFew limit f → AreFew limit (collect f (events.From a))
few_arrived limit f a few = omega (arith, few, size-arrived a f.opened)

few_first : (r : Reading) (f : Frames) → NoneYet r f → r.frames < r.limit → AreFew r.limit (collect f events.Frame)
few_first r f none below = omega (arith, below, length-append f.closed (closed_frames f.opened), ap length none.closed, ap (λ o. length (closed_frames o)) none.opened)

few_next : (r : Reading) (f : Frames) → OneOpen r f → r.frames < r.limit → AreFew r.limit (collect f events.Frame)
few_next r f one below = omega (arith, length-append f.closed (closed_frames f.opened), ap (λ o. length (closed_frames o)) one.opened, one.frames, below)

-- a frame that is opened without a fault is one of those that there may be
frame_below : (r : Reading) → stage_fault r lines.Frame ≡ None → r.frames < r.limit
frame_below r none = by (option_map faults.Rule (broken_by_frame r)) (nat_le r.limit r.frames) refl none
  where
    by : (rule : Option LineFault) (full : Bool) → nat_le r.limit r.frames ≡ full → option_or rule (cond full (Some faults.Count) None) ≡ None → r.frames < r.limit
    by None true is h = cc
    by None false is h = grind (arith, nat_tests)
    by (Some why) full is h = cc

-- after a line that is taken there are few
taken_few : (stage : Stage) (r : Reading) (line : Line) (f : Frames) → is_over stage ≡ false → IsTaken stage line → stage_fault r line ≡ None → AgreesAt stage r f → AreFew r.limit f
    → AreFew r.limit (run_of collect f (event_of (Some line)))
taken_few Start r (lines.OfMap line) f going is none agrees few = few
taken_few Start r lines.Frame f going is none agrees few = cc
taken_few Start r (lines.From a) f going is none agrees few = cc
taken_few Start r lines.End f going is none agrees few = cc
taken_few Map r (lines.OfMap line) f going is none agrees few = few
taken_few Map r lines.Frame f going is none agrees few = few_first r f agrees (frame_below r none)
taken_few Map r (lines.From a) f going is none agrees few = cc
taken_few Map r lines.End f going is none agrees few = few_ended r.limit f few
taken_few Playing r (lines.OfMap line) f going is none agrees few = few
taken_few Playing r lines.Frame f going is none agrees few = few_next r f agrees (frame_below r none)
taken_few Playing r (lines.From a) f going is none agrees few = few_arrived r.limit f a few
taken_few Playing r lines.End f going is none agrees few = few_ended r.limit f few
taken_few Ended r line f going is none agrees few = cc
taken_few (Refused why) r line f going is none agrees few = cc

few_line : (r : Reading) (raw : List ℕ) (f : Frames) → Agrees r f → AreFew r.limit f → AreFew r.limit (run_of collect f (events_of_line r raw))
few_line =
    of_each_line (λ r s es. (f : Frames) → Agrees r f → AreFew r.limit f → AreFew r.limit (run_of collect f es)) (λ r f agrees few. few) (λ r why f agrees few. few)
    (λ r line is f agrees few. taken_few r.stage r line f is.going is.taken is.faultless agrees few)

few_lines : (r : Reading) (ls : List (List ℕ)) (f : Frames) → Agrees r f → AreFew r.limit f → AreFew r.limit (run_of collect f (events_of r ls))
few_lines r [] f agrees few = few
few_lines r (l ∷ ls) f agrees few =
    let same : (next r l).limit ≡ r.limit = next-limit r l in
    let here : AreFew (next r l).limit (run_of collect f (events_of_line r l)) = subst (λ n. AreFew n (run_of collect f (events_of_line r l))) (sym same) (few_line r l f agrees few) in
    let later = few_lines (next r l) ls (run_of collect f (events_of_line r l)) (agrees_line r l f agrees) here in
    let rest : AreFew r.limit (run_of collect (run_of collect f (events_of_line r l)) (events_of (next r l) ls)) =
    subst (λ n. AreFew n (run_of collect (run_of collect f (events_of_line r l)) (events_of (next r l) ls))) same later in
    subst (AreFew r.limit) (sym (run_of-append {E = Event} collect (λ _ _. []) f (events_of_line r l) (events_of (next r l) ls))) rest

-- the frames that lines close are few
pub frames_are_few_of : (limit : ℕ) (ls : List (List ℕ)) → length (frames_of_events (events_of (start_within limit) ls)).closed ≤ limit
frames_are_few_of limit ls =
    let r = start_within limit in
    let none : NoneYet r no_frames = record { closed = refl; opened = refl; frames = refl } in
    let few : AreFew limit no_frames = omega arith in
    let all = few_lines r ls no_frames none few in
    omega (arith, all)

-- a recording's frames are few
pub frames_are_few : (bytes : List ℕ) → length (frames_of bytes) ≤ 100000
frames_are_few bytes = frames_are_few_of 100000 (lines_of bytes)
