-- The counts that a reading keeps are those of the frames that its lines give.
use Rattle.std.proofs.Common.{◌≡◌, ℕ, ◌+◌, false, List, [], ◌∷◌, ◌++◌, length, Some, None, option_map, refl, ap, ◌∙◌, sym, subst, arith, length-append}
use Rattle.packet_read.specs.declared.arrival.Arrival.{Arrival}
use Rattle.demo_lines.specs.declared.stage.Stage.{Stage}
use Rattle.demo_lines.specs.declared.stage.Stage.TheVariants.{Start, Map, Playing, Ended, Refused}
use Rattle.demo_lines.specs.declared.line.Line.{Line}
use Rattle.demo_lines.specs.declared.line.Line.TheVariants as lines
use Rattle.demo_lines.specs.declared.event.Event.{Event}
use Rattle.demo_lines.specs.declared.event.Event.TheVariants as events
use Rattle.demo_lines.specs.Machines.{run_of}
use Rattle.demo_lines.specs.Known.{Reading, is_over, at_stage, with_map, with_frame, with_arrival}
use Rattle.demo_lines.specs.Recording.{next, after_line, event_of, events_of_line, after, events_of, with_map_line}
use Rattle.demo_lines.proofs.Machines.{run_of-append}
use Rattle.demo_lines.proofs.Taking.{IsTaken}
use Rattle.out_text.specs.Collecting.{Frames, collect, closed_frames}
use Rattle.out_text.proofs.EachLine.{of_each_line}

-- no frame was opened
pub record NoneYet (r : Reading) (f : Frames) : Type 0 where
  pub closed : f.closed ≡ []
  pub opened : f.opened ≡ None
  pub frames : r.frames ≡ 0

-- a frame is open, and the counts are right
pub record OneOpen (r : Reading) (f : Frames) : Type 0 where
  pub arrivals : List Arrival
  pub opened : f.opened ≡ Some arrivals
  pub count : length arrivals ≡ r.arrivals
  pub frames : length f.closed + 1 ≡ r.frames

-- all frames are closed, and their count is right
pub record AllClosed (r : Reading) (f : Frames) : Type 0 where
  pub opened : f.opened ≡ None
  pub frames : length f.closed ≡ r.frames

abbrev pub AgreesAt : Stage → Reading → Frames → Type 0
AgreesAt Start r f = NoneYet r f
AgreesAt Map r f = NoneYet r f
AgreesAt Playing r f = OneOpen r f
AgreesAt Ended r f = AllClosed r f
AgreesAt (Refused why) r f = Unit {0}

abbrev pub Agrees : Reading → Frames → Type 0
Agrees r f = AgreesAt r.stage r f

first_frame : (r : Reading) (f : Frames) → NoneYet r f → OneOpen (with_frame r) (collect f events.Frame)
first_frame r f none = record {
  arrivals = [];
  opened = refl;
  count = refl;
  frames = omega (arith, length-append f.closed (closed_frames f.opened), ap length none.closed, ap (λ o. length (closed_frames o)) none.opened, none.frames);
}

next_frame : (r : Reading) (f : Frames) → OneOpen r f → OneOpen (with_frame r) (collect f events.Frame)
next_frame r f one = record {
  arrivals = [];
  opened = refl;
  count = refl;
  frames = omega (arith, length-append f.closed (closed_frames f.opened), ap (λ o. length (closed_frames o)) one.opened, one.frames);
}

one_arrival : (r : Reading) (f : Frames) (a : Arrival) → OneOpen r f → OneOpen (with_arrival r) (collect f (events.From a))
one_arrival r f a one = record {
  arrivals = one.arrivals ++ a ∷ [];
  opened = ap (option_map (λ arrivals. arrivals ++ a ∷ [])) one.opened;
  count = omega (arith, length-append one.arrivals (a ∷ []), one.count);
  frames = one.frames;
}

end_without : (r : Reading) (f : Frames) → NoneYet r f → AllClosed (at_stage Ended r) (collect f events.End)
end_without r f none = record {
  opened = refl;
  frames = omega (arith, length-append f.closed (closed_frames f.opened), ap length none.closed, ap (λ o. length (closed_frames o)) none.opened, none.frames);
}

end_after_one : (r : Reading) (f : Frames) → OneOpen r f → AllClosed (at_stage Ended r) (collect f events.End)
end_after_one r f one = record {
  opened = refl;
  frames = omega (arith, length-append f.closed (closed_frames f.opened), ap (λ o. length (closed_frames o)) one.opened, one.frames);
}

none_still : (r t : Reading) (f : Frames) → t.frames ≡ r.frames → NoneYet r f → NoneYet t f
none_still r t f same none = record { closed = none.closed; opened = none.opened; frames = same ∙ none.frames }

-- a line that is taken keeps them so
taken_agrees : (stage : Stage) (r : Reading) (line : Line) (f : Frames) → is_over stage ≡ false → IsTaken stage line → AgreesAt stage r f
    → Agrees (after_line r (Some line)) (run_of collect f (event_of (Some line)))
taken_agrees Start r (lines.OfMap line) f going is h = none_still r (with_map r (with_map_line r.map line)) f refl h
taken_agrees Start r lines.Frame f going is h = cc
taken_agrees Start r (lines.From a) f going is h = cc
taken_agrees Start r lines.End f going is h = cc
taken_agrees Map r (lines.OfMap line) f going is h = none_still r (with_map r (with_map_line r.map line)) f refl h
taken_agrees Map r lines.Frame f going is h = first_frame r f h
taken_agrees Map r (lines.From a) f going is h = cc
taken_agrees Map r lines.End f going is h = end_without r f h
taken_agrees Playing r (lines.OfMap line) f going is h = absurd is
taken_agrees Playing r lines.Frame f going is h = next_frame r f h
taken_agrees Playing r (lines.From a) f going is h = one_arrival r f a h
taken_agrees Playing r lines.End f going is h = end_after_one r f h
taken_agrees Ended r line f going is h = cc
taken_agrees (Refused why) r line f going is h = cc

-- a line keeps them so
pub agrees_line : (r : Reading) (raw : List ℕ) (f : Frames) → Agrees r f → Agrees (next r raw) (run_of collect f (events_of_line r raw))
agrees_line =
    of_each_line (λ r s es. (f : Frames) → Agrees r f → Agrees s (run_of collect f es)) (λ r f h. h) (λ r why f h. tt)
    (λ r line is f h. taken_agrees r.stage r line f is.going is.taken h)

-- lines keep them so
pub agrees_lines : (r : Reading) (ls : List (List ℕ)) (f : Frames) → Agrees r f → Agrees (after r ls) (run_of collect f (events_of r ls))
agrees_lines r [] f h = h
agrees_lines r (l ∷ ls) f h =
    let rest = agrees_lines (next r l) ls (run_of collect f (events_of_line r l)) (agrees_line r l f h) in
    let P : Frames → Type 0 = λ g. Agrees (after (next r l) ls) g in
    subst P (sym (run_of-append {E = Event} collect (λ _ _. []) f (events_of_line r l) (events_of (next r l) ls))) rest
