-- A recording's frames have at most 512 packets each, from ports of 16 bits and with at most 252 bytes, for which a line
-- has room.
use Rattle.std.proofs.Common.{◌≡◌, ℕ, ◌<◌, ◌≤◌, Bool, true, false, cond, nat_le, All, List, [], ◌∷◌, ◌++◌, length, Option, Some, None, IfSome, option_map, refl, sym, subst, arith, length-append}
use Rattle.std.specs.List.{AllByRecursion}
use Rattle.std.proofs.lemmas.Bool.Decides.{nat_tests}
use Rattle.std.proofs.lemmas.List.Elements.{All-nil, All-push}
use Rattle.packet_read.specs.declared.arrival.Arrival.{Arrival}
use Rattle.demo_lines.specs.declared.stage.Stage.{Stage}
use Rattle.demo_lines.specs.declared.stage.Stage.TheVariants.{Start, Map, Playing, Ended, Refused}
use Rattle.demo_lines.specs.declared.line.Line.{Line}
use Rattle.demo_lines.specs.declared.line.Line.TheVariants as lines
use Rattle.demo_lines.specs.declared.line_fault.LineFault.TheVariants as faults
use Rattle.demo_lines.specs.declared.event.Event.{Event}
use Rattle.demo_lines.specs.declared.event.Event.TheVariants as events
use Rattle.demo_lines.specs.Machines.{run_of}
use Rattle.demo_lines.specs.Known.{Reading, start_within, is_over}
use Rattle.demo_lines.specs.Said.{stage_fault}
use Rattle.demo_lines.specs.Recording.{next, event_of, events_of_line, events_of}
use Rattle.demo_lines.specs.Bytes.{lines_of}
use Rattle.demo_lines.proofs.Machines.{run_of-append}
use Rattle.demo_lines.proofs.Taking.{IsTaken}
use Rattle.out_text.specs.Collecting.{Frames, collect, frames_of_events, closed_frames, no_frames, frames_of}
use Rattle.out_text.proofs.Saying.{IsSound}
use Rattle.out_text.proofs.Fitting.{IsShort, HasLine, FitsPacket, FitsLine}
use Rattle.out_text.proofs.EachLine.{of_each_line}
use Rattle.out_text.proofs.Growing.{GoesOnWith}
use Rattle.out_text.proofs.Agreement.{NoneYet, OneOpen, AgreesAt, Agrees, agrees_line}

-- a port of 16 bits
abbrev pub HasPort : Arrival → Type 0
HasPort a = a.port < 65536

-- the packets of a frame
pub record IsSmallFrame (arrivals : List Arrival) : Type 0 where
  pub few : length arrivals ≤ 512
  pub ports : All HasPort arrivals
  pub short : All IsShort arrivals
  pub room : All HasLine arrivals

abbrev pub AreSmallFrames : List (List Arrival) → Type 0
AreSmallFrames frames = AllByRecursion IsSmallFrame frames

-- all frames are small, the open one too
record AreSmall (f : Frames) : Type 0 where
  closed : AreSmallFrames f.closed
  opened : IfSome f.opened IsSmallFrame

small_both : (xs ys : List (List Arrival)) → AreSmallFrames xs → AreSmallFrames ys → AreSmallFrames (xs ++ ys)
small_both [] ys p q = q
small_both (x ∷ xs) ys p q = (p.0, small_both xs ys p.1 q)

closing_small : (o : Option (List Arrival)) → IfSome o IsSmallFrame → AreSmallFrames (closed_frames o)
closing_small None p = tt
closing_small (Some arrivals) p = (p, tt)

empty_is_small : IsSmallFrame []
empty_is_small = record { few = omega arith; ports = All-nil HasPort; short = All-nil IsShort; room = All-nil HasLine }

small_next : (f : Frames) → AreSmall f → AreSmall (collect f events.Frame)
small_next f p = record { closed = small_both f.closed (closed_frames f.opened) p.closed (closing_small f.opened p.opened); opened = empty_is_small }

small_ended : (f : Frames) → AreSmall f → AreSmall (collect f events.End)
small_ended f p = record { closed = small_both f.closed (closed_frames f.opened) p.closed (closing_small f.opened p.opened); opened = tt }

-- one packet more, where there are fewer than 512
opened_with : (o : Option (List Arrival)) (a : Arrival) → IfSome o (λ arrivals. length arrivals < 512) → HasPort a → FitsPacket a → IfSome o IsSmallFrame
    → IfSome (option_map (λ arrivals. arrivals ++ a ∷ []) o) IsSmallFrame
opened_with None a below port fits small = tt
opened_with (Some arrivals) a below port fits small = record {
  few = omega (arith, length-append arrivals (a ∷ []), below);
  ports = All-push HasPort arrivals a small.ports port;
  short = All-push IsShort arrivals a small.short fits.short;
  room = All-push HasLine arrivals a small.room fits.room;
}

-- a packet that is taken without a fault is one of the 512
arrival_below : (r : Reading) (a : Arrival) → stage_fault r (lines.From a) ≡ None → r.arrivals < 512
arrival_below r a none = by (nat_le 512 r.arrivals) refl none
  where
    by : (full : Bool) → nat_le 512 r.arrivals ≡ full → cond full (Some faults.Count) None ≡ None → r.arrivals < 512
    by true is h = cc
    by false is h = grind (arith, nat_tests)

small_arrived : (r : Reading) (f : Frames) (a : Arrival) → OneOpen r f → r.arrivals < 512 → HasPort a → FitsPacket a → AreSmall f → AreSmall (collect f (events.From a))
small_arrived r f a one below port fits small =
    let fewer : length one.arrivals < 512 = omega (arith, one.count, below) in
    let P : Option (List Arrival) → Type 0 = λ o. IfSome o (λ arrivals. length arrivals < 512) in
    record { closed = small.closed; opened = opened_with f.opened a (subst P (sym one.opened) fewer) port fits small.opened }

-- after a line that is taken
taken_small : (stage : Stage) (r : Reading) (line : Line) (f : Frames) → is_over stage ≡ false → IsTaken stage line → IsSound line → FitsLine line → stage_fault r line ≡ None → AgreesAt stage r f → AreSmall f
    → AreSmall (run_of collect f (event_of (Some line)))
taken_small Start r (lines.OfMap line) f going is sound fits none agrees small = small
taken_small Start r lines.Frame f going is sound fits none agrees small = cc
taken_small Start r (lines.From a) f going is sound fits none agrees small = cc
taken_small Start r lines.End f going is sound fits none agrees small = cc
taken_small Map r (lines.OfMap line) f going is sound fits none agrees small = small
taken_small Map r lines.Frame f going is sound fits none agrees small = small_next f small
taken_small Map r (lines.From a) f going is sound fits none agrees small = cc
taken_small Map r lines.End f going is sound fits none agrees small = small_ended f small
taken_small Playing r (lines.OfMap line) f going is sound fits none agrees small = small
taken_small Playing r lines.Frame f going is sound fits none agrees small = small_next f small
taken_small Playing r (lines.From a) f going is sound fits none agrees small = small_arrived r f a agrees (arrival_below r a none) sound.port fits small
taken_small Playing r lines.End f going is sound fits none agrees small = small_ended f small
taken_small Ended r line f going is sound fits none agrees small = cc
taken_small (Refused why) r line f going is sound fits none agrees small = cc

small_line : (r : Reading) (raw : List ℕ) (f : Frames) → Agrees r f → AreSmall f → AreSmall (run_of collect f (events_of_line r raw))
small_line =
    of_each_line (λ r s es. (f : Frames) → Agrees r f → AreSmall f → AreSmall (run_of collect f es)) (λ r f agrees small. small) (λ r why f agrees small. small)
    (λ r line is f agrees small. taken_small r.stage r line f is.going is.taken is.sound is.fits is.faultless agrees small)

small_lines : (r : Reading) (ls : List (List ℕ)) (f : Frames) → Agrees r f → AreSmall f → AreSmall (run_of collect f (events_of r ls))
small_lines r [] f agrees small = small
small_lines r (l ∷ ls) f agrees small =
    let rest = small_lines (next r l) ls (run_of collect f (events_of_line r l)) (agrees_line r l f agrees) (small_line r l f agrees small) in
    subst AreSmall (sym (run_of-append {E = Event} collect (λ _ _. []) f (events_of_line r l) (events_of (next r l) ls))) rest

-- a recording's frames are small
pub frames_are_small_of : (limit : ℕ) (ls : List (List ℕ)) → AreSmallFrames (frames_of_events (events_of (start_within limit) ls)).closed
frames_are_small_of limit ls =
    let r = start_within limit in
    let none : NoneYet r no_frames = record { closed = refl; opened = refl; frames = refl } in
    (small_lines r ls no_frames none (record { closed = tt; opened = tt })).closed

-- so are those of a recording
pub frames_are_small : (bytes : List ℕ) → AreSmallFrames (frames_of bytes)
frames_are_small bytes =
    frames_are_small_of 100000 (lines_of bytes)

first_are_small : (xs ys : List (List Arrival)) → AreSmallFrames (xs ++ ys) → AreSmallFrames xs
first_are_small [] ys p = tt
first_are_small (x ∷ xs) ys p = (p.0, first_are_small xs ys p.1)

-- and so are the first of them
pub fore_are_small : (closed all : List (List Arrival)) → GoesOnWith closed all → AreSmallFrames all → AreSmallFrames closed
fore_are_small closed all on p = first_are_small closed on.rest (subst AreSmallFrames on.is p)
