-- An event that closed a frame, and what the frame gave out.
use Rattle.std.specs.List.{All}
use Rattle.std.proofs.Common.{◌≡◌, ℕ, ◌<◌, ◌≤◌, Bool, true, false, List, length, get_or, Option, Some, None, IfSome, if◌then◌else◌, refl, sym, ap, ◌∙◌, subst, arith}
use Rattle.std.proofs.lemmas.List.Elements.{All-map}
use Rattle.std.proofs.lemmas.List.{length-map}
use Rattle.entity_recs.specs.declared.rec.Rec.{Rec}
use Rattle.entity_recs.specs.declared.effect.Entry.{Entry}
use Rattle.packet_read.specs.declared.arrival.Arrival.{Arrival}
use Rattle.world_tree.specs.Live.{live_in}
use Rattle.plain_server.specs.Replies.{players_in}
use Rattle.snapshot_write.specs.Snapshots.{snapshot}
use Rattle.frame_phases.specs.declared.frame_out.FrameOut.{FrameOut}
use Rattle.frame_phases.specs.Servers.{ServerView}
use Rattle.frame_phases.specs.FramesRun.{RunsFrame, IsGiven, shown_by}
use Rattle.demo_lines.specs.declared.event.Event.{Event}
use Rattle.demo_lines.specs.declared.event.Event.TheVariants.{Frame, From, End}
use Rattle.playback.specs.Playbacks.{Course, PlaybackView, ArePrintable, IsGivenIf, Closes, GoesOn, MayClose, IsReady}

-- ---- the frame that was closed

-- a frame was open, with these packets, and was run
pub record IsRun (workers : ℕ) (old new : Course) (journal : List Entry) : Type 0 where
  pub arrivals : List Arrival
  pub opened : old.opened ≡ Some arrivals
  pub runs : RunsFrame workers old.server new.server arrivals journal

run_of-closed : (workers : ℕ) (old new : Course) (o : Option (List Arrival)) (journal : List Entry) → old.opened ≡ o → Closes workers old.server new.server o (Some journal) → IsRun workers old new journal
run_of-closed workers old new None journal is closes = absurd closes
run_of-closed workers old new (Some arrivals) journal is closes = record { arrivals = arrivals; opened = is; runs = closes }

-- an event that closed a frame ran it
pub run_of : (workers : ℕ) (old new : Course) (e : Event) (journal : List Entry) → GoesOn workers old new e (Some journal) → IsRun workers old new journal
run_of workers old new Frame journal goes = run_of-closed workers old new old.opened journal refl goes.closes
run_of workers old new (From a) journal goes = let is = goes.none_closed in cc
run_of workers old new End journal goes = run_of-closed workers old new old.opened journal refl goes.closes

-- it might be closed
pub ready_to_close : (workers : ℕ) (old new : Course) (e : Event) (journal : List Entry) → GoesOn workers old new e (Some journal) → IsReady old e → MayClose old
ready_to_close workers old new Frame journal goes ready = ready
ready_to_close workers old new (From a) journal goes ready = let is = goes.none_closed in cc
ready_to_close workers old new End journal goes ready = ready

-- it had few packets
pub few_packets : (workers : ℕ) (old new : Course) (journal : List Entry) (run : IsRun workers old new journal) → MayClose old → length run.arrivals ≤ 512
few_packets workers old new journal run may =
    let P : Option (List Arrival) → Type 0 = λ o. IfSome o (λ arrivals. length arrivals ≤ 512) in
    subst P run.opened may.few

-- there were few frames before it
pub few_frames : (workers : ℕ) (old new : Course) (journal : List Entry) (run : IsRun workers old new journal) → MayClose old → old.server.frames < 100000
few_frames workers old new journal run may =
    let P : Option (List Arrival) → Type 0 = λ o. IfSome o (λ _. old.server.frames < 100000) in
    subst P run.opened may.frames

-- and this is what it gave out
pub given_by : (workers : ℕ) (old new : Course) (journal : List Entry) (out : FrameOut) (run : IsRun workers old new journal) → IsGivenIf old.server old.opened (Some journal) out
    → IsGiven old.server run.arrivals journal out
given_by workers old new journal out run given =
    let P : Option (List Arrival) → Type 0 = λ o. IsGivenIf old.server o (Some journal) out in
    subst P run.opened given

-- ---- what a frame gave out can be printed

-- it has as many replies as slots
one_reply_each : (t : ServerView) (arrivals : List Arrival) (journal : List Entry) (out : FrameOut) → IsGiven t arrivals journal out → length out.slots ≡ length out.replies
one_reply_each t arrivals journal out given =
    let records = shown_by t arrivals journal in
    ap length given.slots_are
    ∙ length-map (players_in records) (λ (me : Rec). me.id)
    ∙ sym (length-map (players_in records) (λ (me : Rec). snapshot t.frames me (live_in records)))
    ∙ sym (ap length given.replies_are)

-- a snapshot has at least one byte
snapshot_is_some : (frame : ℕ) (live : List Rec) (me : Rec) → 1 ≤ length (snapshot frame me live)
snapshot_is_some frame live me = omega arith

each_is_some : (frame : ℕ) (live players : List Rec) → All (λ (me : Rec). 1 ≤ length (snapshot frame me live)) players
each_is_some frame live players k d inside = snapshot_is_some frame live (get_or players k d)

pub are_printable : (t : ServerView) (arrivals : List Arrival) (journal : List Entry) (out : FrameOut) → IsGiven t arrivals journal out → ArePrintable out
are_printable t arrivals journal out given =
    let records = shown_by t arrivals journal in
    let some = All-map (λ (bytes : List ℕ). 1 ≤ length bytes) (λ (me : Rec). snapshot t.frames me (live_in records)) (players_in records) (each_is_some t.frames (live_in records) (players_in records)) in
    record {
      one_each = one_reply_each t arrivals journal out given;
      some = subst (All (λ (bytes : List ℕ). 1 ≤ length bytes)) (sym given.replies_are) some;
    }

-- ---- the frame that is open is run

-- a playback with these parts
abbrev pub playback_with : ServerView → Bool → List Arrival → List Arrival → FrameOut → PlaybackView
playback_with server is_open arrivals closed out = record {
  course = record { server = server; opened = if is_open then Some arrivals else None };
  closed = closed;
  out = out;
}

opened-is : (is_open : Bool) (arrivals : List Arrival) → is_open ≡ true → (if is_open then Some arrivals else None) ≡ Some arrivals
opened-is true arrivals opens = refl
opened-is false arrivals opens = cc

-- it is closed, where the journal that is given is the one of the run
pub closes_by : (workers : ℕ) (p : PlaybackView) (server new : ServerView) (is_open : Bool) (arrivals closed : List Arrival) (before : FrameOut) (journal given : List Entry)
    → playback_with server is_open arrivals closed before ≡ p → is_open ≡ true → given ≡ journal → RunsFrame workers server new arrivals journal → Closes workers p.course.server new p.course.opened (Some given)
closes_by workers p server new is_open arrivals closed before journal given view opens same runs =
    let P : PlaybackView → Type 0 = λ q. Closes workers q.course.server new q.course.opened (Some given) in
    let Q : Option (List Arrival) → Type 0 = λ o. Closes workers server new o (Some given) in
    subst P view (subst Q (sym (opened-is is_open arrivals opens)) (subst (RunsFrame workers server new arrivals) (sym same) runs))

-- and what it gave out is known
pub given_if : (p : PlaybackView) (server : ServerView) (is_open : Bool) (arrivals closed : List Arrival) (before out : FrameOut) (journal given : List Entry)
    → playback_with server is_open arrivals closed before ≡ p → is_open ≡ true → given ≡ journal → IsGiven server arrivals journal out → IsGivenIf p.course.server p.course.opened (Some given) out
given_if p server is_open arrivals closed before out journal given view opens same is =
    let P : PlaybackView → Type 0 = λ q. IsGivenIf q.course.server q.course.opened (Some given) out in
    let Q : Option (List Arrival) → Type 0 = λ o. IsGivenIf server o (Some given) out in
    subst P view (subst Q (sym (opened-is is_open arrivals opens)) (subst (λ (j : List Entry). IsGiven server arrivals j out) (sym same) is))
