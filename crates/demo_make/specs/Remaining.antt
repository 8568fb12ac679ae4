-- What an iterator over the events of a recording has still to give, and a generator, from where it is.
use Rattle.std.specs.Prelude.{◌≡◌, ◌<◌, false, ℕ, ◌+◌, ◌-◌, Bool, List, [], ◌∷◌, ◌++◌, map, filter, flat_map, if◌then◌else◌}
use Rattle.std.specs.List.{range_with_len}
use Rattle.packet_read.specs.declared.arrival.Arrival.{Arrival}
use Rattle.edge_io.specs.WholeLines.{unlines}
use Rattle.arena_map.specs.Spelling.{map_line_text}
use Rattle.demo_lines.specs.declared.event.Event.{Event}
use Rattle.demo_lines.specs.declared.event.Event.TheVariants as events
use Rattle.demo_lines.specs.declared.line.Line.{Line}
use Rattle.demo_lines.specs.declared.line.Line.TheVariants as lines
use Rattle.demo_lines.specs.Spelling.{frame_events, line_text}
use Rattle.demo_make.specs.declared.generated_event.GeneratedEvent.{GeneratedEvent}
use Rattle.demo_make.specs.declared.generated_event.GeneratedEvent.TheVariants.{Frame, From, End}
use Rattle.demo_make.specs.declared.generator.Generator.{Generator}
use Rattle.demo_make.specs.declared.sending.Sending.{Sending}
use Rattle.demo_make.specs.declared.sending.Sending.TheVariants.{Once, Repeated}
use Rattle.demo_make.specs.GeneratedMap.{generated_lines}
use Rattle.demo_make.specs.GeneratedFrames.{arrival, join_from, ports, joins_in, move_in}
use Rattle.demo_make.specs.ResentFrames.{repeat_from, arrives}

-- ---- events

-- the event that a generated one is
abbrev pub event_of : GeneratedEvent → Event
event_of Frame = events.Frame
event_of (From port bytes) = events.From (arrival port bytes)
event_of End = events.End

-- the line that gives an event
abbrev pub line_of : Event → Line
line_of events.Frame = lines.Frame
line_of (events.From a) = lines.From a
line_of events.End = lines.End

-- the line of an event, with its line feed
abbrev pub event_text : Event → List ℕ
event_text event = line_text (line_of event) ++ 10 ∷ []

-- the lines of events
abbrev pub events_text : List Event → List ℕ
events_text es = flat_map event_text es

-- the text of a recording with the generated map and these events
abbrev pub text_with : List Event → List ℕ
text_with es = unlines (map map_line_text generated_lines) ++ events_text es

-- ---- the recording

-- the packets with commands of these players in a frame, sent once or repeated
abbrev pub packets_of : Sending → ℕ → ℕ → ℕ → ℕ → List ℕ → List Arrival
packets_of Once seed players frames frame of_ports = map (move_in seed players frame) of_ports
packets_of Repeated seed players frames frame of_ports =
    map (repeat_from seed players frame) (filter (arrives frames frame) of_ports)

-- the packets of a frame: the joins, and the packets with commands of all players
abbrev pub frame_of : Sending → ℕ → ℕ → ℕ → ℕ → List Arrival
frame_of sending seed players frames frame =
    joins_in players frame ++ packets_of sending seed players frames frame (ports players)

-- ---- what is left

-- the joins and the packets with commands of the open frame that are left, the frames after it, and whether the end was
-- given
pub record Left : Type 0 where
  pub joins : List Arrival
  pub packets : List Arrival
  pub frames : List (List Arrival)
  pub ended : Bool

-- the end, until it was given
abbrev pub end_unless : Bool → List Event
end_unless ended = if ended then [] else events.End ∷ []

-- its events: the joins and the packets of the open frame, the frames after it, and the end
unfoldable pub events_left : Left → List Event
events_left left =
    map events.From left.joins
    ++ (map events.From left.packets ++ (flat_map frame_events left.frames ++ end_unless left.ended))

-- ---- of a generator

-- where a generator is: how it sends commands, the seed, how many players there are, how many frames were opened, how
-- many are left, how many joins and moves of the open one are left, and whether the end was given
pub record Progress : Type 0 where
  pub sending : Sending
  pub seed : ℕ
  pub players : ℕ
  pub opened : ℕ
  pub frames : ℕ
  pub joins : ℕ
  pub moves : ℕ
  pub ended : Bool

-- the port whose packet is the next of the open frame
abbrev pub sender_in : Progress → ℕ
sender_in p = p.players - p.moves + 1

-- one packet of the open frame less is left
abbrev pub with_one_sent : Progress → Progress
with_one_sent p = record {
  sending = p.sending;
  seed = p.seed;
  players = p.players;
  opened = p.opened;
  frames = p.frames;
  joins = p.joins;
  moves = p.moves - 1;
  ended = p.ended;
}

-- how many frames the recording has
abbrev pub frames_in : Progress → ℕ
frames_in p = p.opened + p.frames

-- whether the next packet of the open frame arrives, where commands are repeated
abbrev pub comes_in : Progress → Bool
comes_in p = arrives (frames_in p) (p.opened - 1) (sender_in p)

-- it is lost
pub record IsLost (p : Progress) : Type 0 where
  pub repeated : p.sending ≡ Repeated
  pub some : 0 < p.moves
  pub lost : comes_in p ≡ false

-- the joins of the open frame that are left
abbrev pub joins_left : Progress → List Arrival
joins_left p = map join_from (range_with_len (p.players - p.joins + 1) p.joins)

-- the packets with commands of the open frame that are left
abbrev pub packets_left : Progress → List Arrival
packets_left p =
    packets_of p.sending p.seed p.players (frames_in p) (p.opened - 1) (range_with_len (sender_in p) p.moves)

-- the frames that are left
abbrev pub frames_left : Progress → List (List Arrival)
frames_left p = map (frame_of p.sending p.seed p.players (frames_in p)) (range_with_len p.opened p.frames)

-- the events that are left
abbrev pub left_of : Progress → List Event
left_of p = events_left (record {
  joins = joins_left p;
  packets = packets_left p;
  frames = frames_left p;
  ended = p.ended;
})

-- where this generator is
abbrev pub progress_of : Generator → Progress
progress_of g = record {
  sending = g.sending;
  seed = g.seed;
  players = g.players;
  opened = g.opened;
  frames = g.frames_left;
  joins = g.joins_left;
  moves = g.moves_left;
  ended = g.ended;
}

-- the events that a generator has still to give
abbrev pub remaining_events : Generator → List Event
remaining_events g = left_of (progress_of g)
