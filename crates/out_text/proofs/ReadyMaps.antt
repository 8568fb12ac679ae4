-- The map of a recording with a frame has a spawn.
use Rattle.std.proofs.Common.{◌≡◌, ℕ, ◌+◌, ◌<◌, Bool, true, false, cond, nat_le, List, [], ◌∷◌, ◌++◌, length, Option, Some, None, IfSome, option_map, refl, sym, ap, ◌∙◌, subst, arith, length-append}
use Rattle.std.specs.Option.{option_or}
use Rattle.packet_read.specs.declared.arrival.Arrival.{Arrival}
use Rattle.arena_map.specs.declared.map_fault.MapFault.TheVariants as rules
use Rattle.arena_map.specs.Maps.{MapView, is_ready}
use Rattle.demo_lines.specs.declared.stage.Stage.{Stage}
use Rattle.demo_lines.specs.declared.stage.Stage.TheVariants.{Start, Map, Playing, Ended, Refused}
use Rattle.demo_lines.specs.declared.line.Line.{Line}
use Rattle.demo_lines.specs.declared.line.Line.TheVariants as lines
use Rattle.demo_lines.specs.declared.line_fault.LineFault.TheVariants as faults
use Rattle.demo_lines.specs.declared.event.Event.{Event}
use Rattle.demo_lines.specs.declared.event.Event.TheVariants as events
use Rattle.demo_lines.specs.Machines.{run_of}
use Rattle.demo_lines.specs.Known.{Reading, start, is_over, is_map_whole}
use Rattle.demo_lines.specs.Faults.{has_spawn}
use Rattle.demo_lines.specs.Said.{stage_fault}
use Rattle.demo_lines.specs.Recording.{next, after_line, event_of, events_of_line, after, events_of}
use Rattle.demo_lines.specs.Bytes.{lines_of, map_of}
use Rattle.demo_lines.proofs.Machines.{run_of-append}
use Rattle.demo_lines.proofs.Taking.{IsTaken}
use Rattle.out_text.specs.Collecting.{Frames, collect, closed_frames, no_frames, frames_of}
use Rattle.out_text.proofs.EachLine.{of_each_line}
use Rattle.out_text.proofs.Agreement.{NoneYet, AgreesAt, Agrees, agrees_line}

-- the map has a spawn, where there is one
abbrev HasSpawn : Option MapView → Type 0
HasSpawn map = IfSome map (λ m. is_ready m ≡ true)

-- so many frames are closed or open
abbrev count_of : Frames → ℕ
count_of f = length f.closed + length (closed_frames f.opened)

-- with a frame the map has a spawn
abbrev IsReadyFor : Option MapView → Frames → Type 0
IsReadyFor map f = 0 < count_of f → HasSpawn map

ready : (map : Option MapView) → has_spawn map ≡ true → HasSpawn map
ready None h = tt
ready (Some map) h = h

-- the first frame is opened without a fault only where there is a spawn
spawn_there : (r : Reading) → r.stage ≡ Map → stage_fault r lines.Frame ≡ None → has_spawn r.map ≡ true
spawn_there r here none =
    by (has_spawn r.map) refl
    (sym (ap (λ s. option_or (option_map faults.Rule (cond (is_map_whole s) None (cond (has_spawn r.map) None (Some rules.NoSpawn)))) (cond (nat_le r.limit r.frames) (Some faults.Count) None)) here) ∙ none)
  where
    by : (b : Bool) → has_spawn r.map ≡ b → option_or (option_map faults.Rule (cond b None (Some rules.NoSpawn))) (cond (nat_le r.limit r.frames) (Some faults.Count) None) ≡ None
        → has_spawn r.map ≡ true
    by true is h = is
    by false is h = cc

none_ready : (map : Option MapView) (r : Reading) (f : Frames) → NoneYet r f → IsReadyFor map f
none_ready map r f none some = absurd (omega (arith, some, ap length none.closed, ap (λ o. length (closed_frames o)) none.opened))

size-arrived : (a : Arrival) (o : Option (List Arrival)) → length (closed_frames (option_map (λ arrivals. arrivals ++ a ∷ []) o)) ≡ length (closed_frames o)
size-arrived a None = refl
size-arrived a (Some arrivals) = refl

ended_ready : (map : Option MapView) (f : Frames) → IsReadyFor map f → IsReadyFor map (collect f events.End)
ended_ready map f is some = is (omega (arith, some, length-append f.closed (closed_frames f.opened)))

arrived_ready : (map : Option MapView) (f : Frames) (a : Arrival) → IsReadyFor map f → IsReadyFor map (collect f (events.From a))
arrived_ready map f a is some = is (omega (arith, some, size-arrived a f.opened))

-- after a line that is taken
taken_ready : (stage : Stage) (r : Reading) (line : Line) (f : Frames) → r.stage ≡ stage → is_over stage ≡ false → IsTaken stage line → stage_fault r line ≡ None → AgreesAt stage r f
    → IsReadyFor r.map f → IsReadyFor (after_line r (Some line)).map (run_of collect f (event_of (Some line)))
taken_ready Start r (lines.OfMap line) f here going is none agrees has = none_ready (after_line r (Some (lines.OfMap line))).map r f agrees
taken_ready Start r lines.Frame f here going is none agrees has = cc
taken_ready Start r (lines.From a) f here going is none agrees has = cc
taken_ready Start r lines.End f here going is none agrees has = cc
taken_ready Map r (lines.OfMap line) f here going is none agrees has = none_ready (after_line r (Some (lines.OfMap line))).map r f agrees
taken_ready Map r lines.Frame f here going is none agrees has = λ some. ready r.map (spawn_there r here none)
taken_ready Map r (lines.From a) f here going is none agrees has = cc
taken_ready Map r lines.End f here going is none agrees has = ended_ready r.map f has
taken_ready Playing r (lines.OfMap line) f here going is none agrees has = absurd is
taken_ready Playing r lines.Frame f here going is none agrees has = λ some. has (omega (arith, ap (λ o. length (closed_frames o)) agrees.opened))
taken_ready Playing r (lines.From a) f here going is none agrees has = arrived_ready r.map f a has
taken_ready Playing r lines.End f here going is none agrees has = ended_ready r.map f has
taken_ready Ended r line f here going is none agrees has = cc
taken_ready (Refused why) r line f here going is none agrees has = cc

line_ready : (r : Reading) (raw : List ℕ) (f : Frames) → Agrees r f → IsReadyFor r.map f → IsReadyFor (next r raw).map (run_of collect f (events_of_line r raw))
line_ready =
    of_each_line (λ r s es. (f : Frames) → Agrees r f → IsReadyFor r.map f → IsReadyFor s.map (run_of collect f es)) (λ r f agrees has. has) (λ r why f agrees has. has)
    (λ r line is f agrees has. taken_ready r.stage r line f refl is.going is.taken is.faultless agrees has)

lines_ready : (r : Reading) (ls : List (List ℕ)) (f : Frames) → Agrees r f → IsReadyFor r.map f → IsReadyFor (after r ls).map (run_of collect f (events_of r ls))
lines_ready r [] f agrees has = has
lines_ready r (l ∷ ls) f agrees has =
    let rest = lines_ready (next r l) ls (run_of collect f (events_of_line r l)) (agrees_line r l f agrees) (line_ready r l f agrees has) in
    subst (IsReadyFor (after (next r l) ls).map) (sym (run_of-append {E = Event} collect (λ _ _. []) f (events_of_line r l) (events_of (next r l) ls))) rest

-- a recording with a frame has a spawn
pub frames_have_spawn : (bytes : List ℕ) (arena : MapView) → map_of bytes ≡ Some arena → 0 < length (frames_of bytes) → is_ready arena ≡ true
frames_have_spawn bytes arena has some =
    let none : NoneYet start no_frames = record { closed = refl; opened = refl; frames = refl } in
    let never : IsReadyFor start.map no_frames = λ more. tt in
    subst HasSpawn has (lines_ready start (lines_of bytes) no_frames none never (omega (arith, some)))
