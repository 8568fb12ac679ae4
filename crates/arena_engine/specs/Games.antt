-- The game of a recording: what an event closes, and how the game goes on.
use Rattle.std.specs.Prelude.{◌≡◌, ℕ, ◌≤◌, Bool, true, false, List, [], ◌∷◌, ◌++◌, length, Option, Some, None, option_map, ⊤}
use Rattle.entity_recs.specs.declared.effect.Entry.{Entry}
use Rattle.arena_map.specs.Maps.{MapView}
use Rattle.packet_read.specs.declared.arrival.Arrival.{Arrival}
use Rattle.packet_read.specs.Orders.{in_order}
use Rattle.plain_server.specs.Frames.{received_in}
use Rattle.frame_phases.specs.declared.frame_out.FrameOut.{FrameOut}
use Rattle.frame_phases.specs.Servers.{ServerView}
use Rattle.demo_lines.specs.declared.event.Event.{Event}
use Rattle.demo_lines.specs.declared.event.Event.TheVariants.{Frame, From, End}
use Rattle.demo_lines.specs.declared.event.EventKind.{EventKind}
use Rattle.demo_lines.specs.declared.event.EventKind.TheVariants as kinds
use Rattle.out_text.specs.OutLines.{OutLine, EndLine}
use Rattle.out_text.specs.FrameLines.{given_lines, lines_with}
use Rattle.frame_phases.specs.FramesRun.{RunsFrame}
use Rattle.playback.specs.Playbacks.{Course, PlaybackView, MayClose, new_course}
use Rattle.arena_engine.specs.declared.feeding.Feeding.{Feeding}
use Rattle.arena_engine.specs.Feedings.{Last, no_last, arranged, IsOrderOf, with_packets}

-- how far its events were played, and the last frame that was run
pub record GameView : Type 0 where
  pub course : Course
  pub last : Last

-- before the first event
abbrev pub new_game : MapView → GameView
new_game map = record { course = new_course map; last = no_last }

-- the event is the recording's end
abbrev pub is_end : Event → Bool
is_end Frame = false
is_end (From a) = false
is_end End = true

-- ---- a frame that is closed

-- the order in which its packets arrived, where they have one, and its journal
pub record Closing : Type 0 where
  pub order : Option (List ℕ)
  pub journal : List Entry

-- this was closed, where there is a journal
abbrev pub closing_with : Option (List ℕ) → Option (List Entry) → Option Closing
closing_with order journal = option_map (λ (j : List Entry). record { order = order; journal = j }) journal

-- the frame's packets arrived in this order, and it was run with it
pub record RunsFed (feeding : Feeding) (workers : ℕ) (old new : ServerView) (arrivals : List Arrival) (c : Closing) : Type 0
  where
    pub order : IsOrderOf feeding arrivals c.order
    pub runs : RunsFrame workers old new (arranged c.order arrivals) c.journal

-- the frame that was open, if one was, was run so
abbrev pub ClosesFed : Feeding → ℕ → ServerView → ServerView → Option (List Arrival) → Option Closing → Type 0
ClosesFed feeding workers old new None None = new ≡ old
ClosesFed feeding workers old new None (Some c) = ⊥
ClosesFed feeding workers old new (Some arrivals) None = ⊥
ClosesFed feeding workers old new (Some arrivals) (Some c) = RunsFed feeding workers old new arrivals c

-- the frame that was open was closed, and these packets are those of the one that is open then
pub record EndsFrame (feeding : Feeding) (workers : ℕ) (old new : Course) (closed : Option Closing)
    (opened : Option (List Arrival)) : Type 0 where
  pub closes : ClosesFed feeding workers old.server new.server old.opened closed
  pub opened_is : new.opened ≡ opened

-- the frame that is open has one packet more, and none was closed
pub record KeepsOne (old new : Course) (a : Arrival) (closed : Option Closing) : Type 0 where
  pub none_closed : closed ≡ None
  pub server : new.server ≡ old.server
  pub opened_is : new.opened ≡ option_map (λ arrivals. arrivals ++ a ∷ []) old.opened

-- how an event leaves the course, with what it closed, if it closed a frame
abbrev pub GoesOnFed : Feeding → ℕ → Course → Course → Event → Option Closing → Type 0
GoesOnFed feeding workers old new Frame closed = EndsFrame feeding workers old new closed (Some [])
GoesOnFed feeding workers old new (From a) closed = KeepsOne old new a closed
GoesOnFed feeding workers old new End closed = EndsFrame feeding workers old new closed None

-- the last frame then: the one that was closed, if one was, and else the one before it
abbrev pub newest : Option Closing → Last → Last
newest None before = before
newest (Some c) before = record { order = c.order; journal = Some c.journal }

-- its journal and its order of arrival
abbrev pub newest_journal : Option (List Entry) → Option (List Entry) → Option (List Entry)
newest_journal None before = before
newest_journal (Some journal) before = Some journal

abbrev pub newest_order : Option (List Entry) → Option (List ℕ) → Option (List ℕ) → Option (List ℕ)
newest_order None order before = before
newest_order (Some journal) order before = order

-- ---- lines

-- the lines of the frame that was open, if one was
abbrev pub closing_lines : ServerView → Option (List Arrival) → Option Closing → List OutLine
closing_lines server None closed = []
closing_lines server (Some arrivals) None = []
closing_lines server (Some arrivals) (Some c) =
    with_packets c.order (arranged c.order arrivals)
    (lines_with server.map server.frames (received_in server.map server.frames server.state (arranged c.order arrivals))
    c.journal)

-- the lines that an event closes: those of the frame that was open, and at the end the last line
abbrev pub event_lines : Course → Course → Event → Option Closing → List OutLine
event_lines old new Frame closed = closing_lines old.server old.opened closed
event_lines old new (From a) closed = []
event_lines old new End closed = closing_lines old.server old.opened closed ++ EndLine new.server.frames ∷ []

-- the lines of what a frame gave out with this journal, if one was closed, whose packets were these, in this order
abbrev pub closed_lines : Option (List ℕ) → Option (List Entry) → List Arrival → FrameOut → List OutLine
closed_lines order None packets out = []
closed_lines order (Some journal) packets out =
    with_packets order packets (given_lines out.frame out.received.lists journal out.slots out.replies)

-- these lines, where they are due
abbrev pub lines_if : Bool → List OutLine → List OutLine
lines_if true lines = lines
lines_if false lines = []

-- what is to be printed after an event that closed a frame with this journal, if it closed one
abbrev pub due_lines : Bool → Option (List ℕ) → Option (List Entry) → PlaybackView → List OutLine
due_lines ends order closed p =
    closed_lines order closed p.closed p.out ++ lines_if ends (EndLine p.course.server.frames ∷ [])

-- ---- an event

-- how an event leaves the game, with what it closed, if it closed a frame
pub record Advances (feeding : Feeding) (workers : ℕ) (old new : GameView) (e : Event) (closed : Option Closing) : Type 0
  where
    pub goes : GoesOnFed feeding workers old.course new.course e closed
    pub last_is : new.last ≡ newest closed old.last

-- the game went on by an event, and P of the lines that it closed
pub record Plays (feeding : Feeding) (workers : ℕ) (old new : GameView) (e : Event) (P : List OutLine → Type 0) : Type 0
  where
    pub closed : Option Closing
    pub advances : Advances feeding workers old new e closed
    pub lines : P (event_lines old.course new.course e closed)

-- ---- how a frame's packets are put in order before it is closed

-- an event of this kind may come, whatever its packet
abbrev pub IsReadyFor : Course → EventKind → Type 0
IsReadyFor course kinds.Frame = MayClose course
IsReadyFor course kinds.From = ⊤
IsReadyFor course kinds.End = MayClose course

-- they were put into this order, if there is one
abbrev pub IsArranged : Option (List ℕ) → Course → Course → Type 0
IsArranged None old new = new ≡ old
IsArranged (Some order) old new =
    new ≡ record { server = old.server; opened = option_map (in_order order) old.opened }

-- they were put into an order of arrival
pub record PutsInOrder (feeding : Feeding) (arrivals : List Arrival) (old new : Course) (order : Option (List ℕ)) : Type 0
  where
    pub order_is : IsOrderOf feeding arrivals order
    pub few : length (arranged order arrivals) ≤ length arrivals
    pub course : new ≡ record { server = old.server; opened = Some (arranged order arrivals) }

-- those of the frame that is open were, if one is
abbrev pub PutsOpenInOrder : Feeding → Option (List Arrival) → Course → Course → Option (List ℕ) → Type 0
PutsOpenInOrder feeding None old new order = new ≡ old
PutsOpenInOrder feeding (Some arrivals) old new order = PutsInOrder feeding arrivals old new order

-- they were, where an event of this kind closes the frame
abbrev pub PutsInOrderFor : Feeding → EventKind → Course → Course → Option (List ℕ) → Type 0
PutsInOrderFor feeding kinds.Frame old new order = PutsOpenInOrder feeding old.opened old new order
PutsInOrderFor feeding kinds.From old new order = new ≡ old
PutsInOrderFor feeding kinds.End old new order = PutsOpenInOrder feeding old.opened old new order
