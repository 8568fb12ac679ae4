-- A server over events: what an event closes, and how the server goes on.
use Rattle.std.specs.Prelude.{◌≡◌, ℕ, ◌<◌, ◌≤◌, List, [], ◌∷◌, ◌++◌, length, All, Option, Some, None, option_map, IfSome, ⊤}
use Rattle.entity_recs.specs.declared.effect.Entry.{Entry}
use Rattle.move_journal.specs.Logs.{JournalView}
use Rattle.arena_map.specs.declared.limits.TheConstants.{MOST_FRAMES}
use Rattle.arena_map.specs.Maps.{MapView}
use Rattle.packet_read.specs.declared.arrival.TheConstants.{MOST_ARRIVALS}
use Rattle.packet_read.specs.declared.arrival.Arrival.{Arrival}
use Rattle.frame_phases.specs.declared.frame_out.FrameOut.{FrameOut}
use Rattle.frame_phases.specs.Servers.{ServerView, new_server}
use Rattle.frame_phases.specs.FramesRun.{RunsFrame, IsGiven}
use Rattle.demo_lines.specs.declared.event.Event.{Event}
use Rattle.demo_lines.specs.declared.event.Event.TheVariants.{Frame, From, End}

-- how far events were played: the server, and the packets of the frame that is open, if one is
pub record Course : Type 0 where
  pub server : ServerView
  pub opened : Option (List Arrival)

-- before the first event
abbrev pub new_course : MapView → Course
new_course map = record { server = new_server map; opened = None }

-- the course, the packets of the last frame that was closed, in the order in which it was run, and what it gave out but
-- for its journal
pub record PlaybackView : Type 0 where
  pub course : Course
  pub closed : List Arrival
  pub out : FrameOut

-- the entries of a journal, if there is one
abbrev pub entries_if : Option JournalView → Option (List Entry)
entries_if journal = option_map (λ (j : JournalView). j.entries) journal

-- there are as many replies as slots, and each has at least one byte
pub record ArePrintable (out : FrameOut) : Type 0 where
  pub one_each : length out.slots ≡ length out.replies
  pub some : All (λ (bytes : List ℕ). 1 ≤ length bytes) out.replies

-- ---- a frame

-- this was given out where a frame with these packets was closed with this journal
abbrev pub IsGivenIf : ServerView → Option (List Arrival) → Option (List Entry) → FrameOut → Type 0
IsGivenIf t None closed out = ⊤
IsGivenIf t (Some arrivals) None out = ⊤
IsGivenIf t (Some arrivals) (Some journal) out = IsGiven t arrivals journal out

-- these packets are kept where a frame with these was closed
abbrev pub ArePacketsIf : Option (List Arrival) → Option (List Entry) → List Arrival → Type 0
ArePacketsIf None closed packets = ⊤
ArePacketsIf (Some arrivals) None packets = ⊤
ArePacketsIf (Some arrivals) (Some journal) packets = packets ≡ arrivals

-- ---- an event

-- the frame that was open, if one was, was run, and this is its journal
abbrev pub Closes : ℕ → ServerView → ServerView → Option (List Arrival) → Option (List Entry) → Type 0
Closes workers old new None None = new ≡ old
Closes workers old new None (Some journal) = ⊥
Closes workers old new (Some arrivals) None = ⊥
Closes workers old new (Some arrivals) (Some journal) = RunsFrame workers old new arrivals journal

-- the frame that was open was closed, and these packets are those of the one that is open then
pub record ClosesFrame (workers : ℕ) (old new : Course) (closed : Option (List Entry)) (opened : Option (List Arrival))
    : Type 0 where
  pub closes : Closes workers old.server new.server old.opened closed
  pub opened_is : new.opened ≡ opened

-- the frame that is open has one packet more, and none was closed
pub record KeepsPacket (old new : Course) (a : Arrival) (closed : Option (List Entry)) : Type 0 where
  pub none_closed : closed ≡ None
  pub server : new.server ≡ old.server
  pub opened_is : new.opened ≡ option_map (λ arrivals. arrivals ++ a ∷ []) old.opened

-- how an event leaves the course, with the journal of the frame that it closed, if it closed one
abbrev pub GoesOn : ℕ → Course → Course → Event → Option (List Entry) → Type 0
GoesOn workers old new Frame closed = ClosesFrame workers old new closed (Some [])
GoesOn workers old new (From a) closed = KeepsPacket old new a closed
GoesOn workers old new End closed = ClosesFrame workers old new closed None

-- a frame that is open may be closed: it has few packets, and there are few frames
pub record MayClose (course : Course) : Type 0 where
  pub few : IfSome course.opened (λ arrivals. length arrivals ≤ MOST_ARRIVALS)
  pub frames : IfSome course.opened (λ _. course.server.frames < MOST_FRAMES)

-- this event may come
abbrev pub IsReady : Course → Event → Type 0
IsReady course Frame = MayClose course
IsReady course (From a) = ⊤
IsReady course End = MayClose course
