-- The frames that a recording closes have its events.
use Rattle.std.proofs.Common.{◌≡◌, ℕ, Bool, true, false, List, [], ◌∷◌, ◌++◌, ◌⊎◌, inl, inr, Some, None, option_map, refl, sym, ap, ◌∙◌, subst, append_assoc, append-nil}
use Rattle.std.specs.Prelude.{flat_map}
use Rattle.std.proofs.lemmas.Grind.{flat_map-append}
use Rattle.std.proofs.lemmas.List.{map-append}
use Rattle.packet_read.specs.declared.arrival.Arrival.{Arrival}
use Rattle.demo_lines.specs.declared.stage.Stage.{Stage}
use Rattle.demo_lines.specs.declared.stage.Stage.TheVariants.{Start, Map, Playing, Ended, Refused}
use Rattle.demo_lines.specs.declared.line.Line.{Line}
use Rattle.demo_lines.specs.declared.line.Line.TheVariants as lines
use Rattle.demo_lines.specs.declared.event.Event.{Event}
use Rattle.demo_lines.specs.declared.event.Event.TheVariants as events
use Rattle.demo_lines.specs.Machines.{run_of}
use Rattle.demo_lines.specs.Known.{Reading, start, is_over}
use Rattle.demo_lines.specs.Recording.{next, after_line, event_of, events_of_line, after, events_of}
use Rattle.demo_lines.specs.Spelling.{frame_events, recording_events}
use Rattle.demo_lines.specs.declared.line_refusal.LineRefusal.{LineRefusal}
use Rattle.demo_lines.specs.Bytes.{refused_at, last_part, lines_of, fault}
use Rattle.demo_lines.proofs.Machines.{run_of-append}
use Rattle.demo_lines.proofs.Ends.{after-over, events_of-over}
use Rattle.demo_lines.proofs.Prefixes.{faultless_is_over}
use Rattle.demo_lines.proofs.Taking.{IsTaken}
use Rattle.out_text.specs.Collecting.{Frames, collect, closed_frames, no_frames, frames_of_events}
use Rattle.out_text.specs.Laws.{HasNoFrame, HasOpenFrame, FramesHaveTheEvents}
use Rattle.out_text.proofs.EachLine.{of_each_line}

-- ---- the frames that were made of some events

-- none
record IsNone (f : Frames) (es : List Event) : Type 0 where
  closed : f.closed ≡ []
  opened : f.opened ≡ None
  made : es ≡ []

-- some, of which one is open
record IsOpen (f : Frames) (es : List Event) : Type 0 where
  arrivals : List Arrival
  opened : f.opened ≡ Some arrivals
  made : es ≡ flat_map frame_events (f.closed ++ arrivals ∷ [])

-- by how far the recording is
abbrev IsMadeAt : Stage → Frames → List Event → Type 0
IsMadeAt Start f es = IsNone f es
IsMadeAt Map f es = IsNone f es
IsMadeAt Playing f es = IsOpen f es
IsMadeAt Ended f es = es ≡ recording_events f.closed
IsMadeAt (Refused why) f es = IsNone f es ⊎ IsOpen f es

abbrev IsMade : Reading → Frames → List Event → Type 0
IsMade r f es = IsMadeAt r.stage f es

-- ---- one event more

of_none : (f : Frames) (es : List Event) → IsNone f es → es ≡ flat_map frame_events (f.closed ++ closed_frames f.opened)
of_none f es none = none.made ∙ ap (λ o. flat_map frame_events (closed_frames o)) (sym none.opened) ∙ ap (λ fs. flat_map frame_events (fs ++ closed_frames f.opened)) (sym none.closed)

of_open : (f : Frames) (es : List Event) → IsOpen f es → es ≡ flat_map frame_events (f.closed ++ closed_frames f.opened)
of_open f es open_one = open_one.made ∙ ap (λ o. flat_map frame_events (f.closed ++ closed_frames o)) (sym open_one.opened)

with_frame : (f : Frames) (es : List Event) → es ≡ flat_map frame_events (f.closed ++ closed_frames f.opened) → IsOpen (collect f events.Frame) (es ++ events.Frame ∷ [])
with_frame f es made = record {
  arrivals = [];
  opened = refl;
  made = ap (λ xs. xs ++ events.Frame ∷ []) made ∙ sym (flat_map-append frame_events (f.closed ++ closed_frames f.opened) ([] ∷ []));
}

with_end : (f : Frames) (es : List Event) → es ≡ flat_map frame_events (f.closed ++ closed_frames f.opened) → es ++ events.End ∷ [] ≡ recording_events (collect f events.End).closed
with_end f es made = ap (λ xs. xs ++ events.End ∷ []) made

-- the events of a frame with one packet more
one_more : (closed : List (List Arrival)) (arrivals : List Arrival) (a : Arrival)
    → flat_map frame_events (closed ++ arrivals ∷ []) ++ events.From a ∷ [] ≡ flat_map frame_events (closed ++ (arrivals ++ a ∷ []) ∷ [])
one_more closed arrivals a =
    ap (λ es. es ++ events.From a ∷ []) (flat_map-append frame_events closed (arrivals ∷ []))
    ∙ ap (λ es. (flat_map frame_events closed ++ es) ++ events.From a ∷ []) (append-nil (frame_events arrivals))
    ∙ append_assoc (flat_map frame_events closed) (frame_events arrivals) (events.From a ∷ [])
    ∙ ap (λ es. flat_map frame_events closed ++ events.Frame ∷ es) (sym (map-append events.From arrivals (a ∷ [])))
    ∙ ap (λ es. flat_map frame_events closed ++ es) (sym (append-nil (frame_events (arrivals ++ a ∷ []))))
    ∙ sym (flat_map-append frame_events closed ((arrivals ++ a ∷ []) ∷ []))

with_packet : (f : Frames) (es : List Event) (a : Arrival) → IsOpen f es → IsOpen (collect f (events.From a)) (es ++ events.From a ∷ [])
with_packet f es a open_one = record {
  arrivals = open_one.arrivals ++ a ∷ [];
  opened = ap (option_map (λ arrivals. arrivals ++ a ∷ [])) open_one.opened;
  made = ap (λ xs. xs ++ events.From a ∷ []) open_one.made ∙ one_more f.closed open_one.arrivals a;
}

-- ---- one line more

none_still : (f : Frames) (es : List Event) → IsNone f es → IsNone f (es ++ [])
none_still f es none = subst (IsNone f) (sym (append-nil es)) none

-- after a line that is taken
taken_made : (stage : Stage) (r : Reading) (line : Line) (f : Frames) (es : List Event) → is_over stage ≡ false → IsTaken stage line → IsMadeAt stage f es
    → IsMade (after_line r (Some line)) (run_of collect f (event_of (Some line))) (es ++ event_of (Some line))
taken_made Start r (lines.OfMap line) f es going is made = none_still f es made
taken_made Start r lines.Frame f es going is made = cc
taken_made Start r (lines.From a) f es going is made = cc
taken_made Start r lines.End f es going is made = cc
taken_made Map r (lines.OfMap line) f es going is made = none_still f es made
taken_made Map r lines.Frame f es going is made = with_frame f es (of_none f es made)
taken_made Map r (lines.From a) f es going is made = cc
taken_made Map r lines.End f es going is made = with_end f es (of_none f es made)
taken_made Playing r (lines.OfMap line) f es going is made = absurd is
taken_made Playing r lines.Frame f es going is made = with_frame f es (of_open f es made)
taken_made Playing r (lines.From a) f es going is made = with_packet f es a made
taken_made Playing r lines.End f es going is made = with_end f es (of_open f es made)
taken_made Ended r line f es going is made = cc
taken_made (Refused why) r line f es going is made = cc

-- after a line that is refused
refused_made : (stage : Stage) (f : Frames) (es : List Event) → is_over stage ≡ false → IsMadeAt stage f es → IsNone f es ⊎ IsOpen f es
refused_made Start f es going made = inl made
refused_made Map f es going made = inl made
refused_made Playing f es going made = inr made
refused_made Ended f es going made = cc
refused_made (Refused why) f es going made = cc

line_made : (r : Reading) (raw : List ℕ) → is_over r.stage ≡ false → (f : Frames) (es : List Event) → IsMade r f es
    → IsMade (next r raw) (run_of collect f (events_of_line r raw)) (es ++ events_of_line r raw)
line_made =
    of_each_line (λ r s more. is_over r.stage ≡ false → (f : Frames) (es : List Event) → IsMade r f es → IsMade s (run_of collect f more) (es ++ more))
    (λ r going f es made. subst (IsMade r f) (sym (append-nil es)) made)
    (λ r why going f es made. subst (λ xs. IsNone f xs ⊎ IsOpen f xs) (sym (append-nil es)) (refused_made r.stage f es going made))
    (λ r line is going f es made. taken_made r.stage r line f es is.going is.taken made)

-- after lines
lines_made : (r : Reading) (ls : List (List ℕ)) (f : Frames) (es : List Event) → IsMade r f es → IsMade (after r ls) (run_of collect f (events_of r ls)) (es ++ events_of r ls)
lines_made r [] f es made = subst (IsMade r f) (sym (append-nil es)) made
lines_made r (l ∷ ls) f es made = by (is_over r.stage) refl (λ now. lines_made (next r l) ls (run_of collect f (events_of_line r l)) (es ++ events_of_line r l) now)
  where
    by : (over : Bool) → is_over r.stage ≡ over
        → (IsMade (next r l) (run_of collect f (events_of_line r l)) (es ++ events_of_line r l)
        → IsMade (after (next r l) ls) (run_of collect (run_of collect f (events_of_line r l)) (events_of (next r l) ls)) ((es ++ events_of_line r l) ++ events_of (next r l) ls))
        → IsMade (after r (l ∷ ls)) (run_of collect f (events_of r (l ∷ ls))) (es ++ events_of r (l ∷ ls))
    by true over more =
        subst (λ t. IsMade t (run_of collect f (events_of r (l ∷ ls))) (es ++ events_of r (l ∷ ls))) (sym (after-over r (l ∷ ls) over))
        (subst (λ (xs : List Event). IsMade r (run_of collect f xs) (es ++ xs)) (sym (events_of-over r (l ∷ ls) over)) (subst (IsMade r f) (sym (append-nil es)) made))
    by false going more =
        subst (λ g. IsMade (after (next r l) ls) g (es ++ events_of r (l ∷ ls)))
        (sym (run_of-append {E = Event} collect (λ _ _. []) f (events_of_line r l) (events_of (next r l) ls)))
        (subst (IsMade (after (next r l) ls) (run_of collect (run_of collect f (events_of_line r l)) (events_of (next r l) ls)))
        (append_assoc es (events_of_line r l) (events_of (next r l) ls)) (more (line_made r l going f es made)))

-- ---- all lines

whole_made : (stage : Stage) (r : Reading) (part : List ℕ) (f : Frames) (es : List Event) → IsMadeAt stage f es → is_over stage ≡ true → refused_at stage r part ≡ None
    → es ≡ recording_events f.closed
whole_made Start r part f es made over none = cc
whole_made Map r part f es made over none = cc
whole_made Playing r part f es made over none = cc
whole_made Ended r part f es made over none = made
whole_made (Refused why) r part f es made over none = cc

faulty_made : (stage : Stage) (r : Reading) (part : List ℕ) (f : Frames) (es : List Event) (why : LineRefusal) → IsMadeAt stage f es → refused_at stage r part ≡ Some why
    → IsNone f es ⊎ IsOpen f es
faulty_made Start r part f es why made refused = inl made
faulty_made Map r part f es why made refused = inl made
faulty_made Playing r part f es why made refused = inr made
faulty_made Ended r part f es why made refused = cc
faulty_made (Refused fault) r part f es why made refused = made

made_of : (ls : List (List ℕ)) → IsMade (after start ls) (frames_of_events (events_of start ls)) (events_of start ls)
made_of ls = lines_made start ls no_frames [] (record { closed = refl; opened = refl; made = refl })

whole_has : (bytes : List ℕ) → fault bytes ≡ None → events_of start (lines_of bytes) ≡ recording_events (frames_of_events (events_of start (lines_of bytes))).closed
whole_has bytes none =
    let r = after start (lines_of bytes) in
    whole_made r.stage r (last_part bytes) (frames_of_events (events_of start (lines_of bytes))) (events_of start (lines_of bytes)) (made_of (lines_of bytes)) (faultless_is_over bytes none) none

faulty_has : (bytes : List ℕ) → IsNone (frames_of_events (events_of start (lines_of bytes))) (events_of start (lines_of bytes)) ⊎ IsOpen (frames_of_events (events_of start (lines_of bytes))) (events_of start (lines_of bytes))
    → HasNoFrame bytes ⊎ HasOpenFrame bytes
faulty_has bytes (inl none) = inl (record { events_are = none.made; frames_are = none.closed })
faulty_has bytes (inr open_one) = inr (record { opened = open_one.arrivals; events_are = open_one.made })

pub frames_have_the_events : FramesHaveTheEvents
frames_have_the_events = record {
  whole = whole_has;
  faulty = λ bytes why refused.
      let r = after start (lines_of bytes) in
      faulty_has bytes (faulty_made r.stage r (last_part bytes) (frames_of_events (events_of start (lines_of bytes))) (events_of start (lines_of bytes)) why (made_of (lines_of bytes)) refused);
}
