-- The frames that the events of a recording make, each with its packets.
use Rattle.std.specs.Prelude.{ℕ, List, [], ◌∷◌, ◌++◌, Option, Some, None, option_map}
use Rattle.packet_read.specs.declared.arrival.Arrival.{Arrival}
use Rattle.demo_lines.specs.declared.event.Event.{Event}
use Rattle.demo_lines.specs.declared.event.Event.TheVariants.{Frame, From, End}
use Rattle.demo_lines.specs.Machines.{run_of}
use Rattle.demo_lines.specs.Bytes.{events, events_within}

-- the frames that are closed, each with its packets, and the packets of the frame that is open
pub record Frames : Type 0 where
  pub closed : List (List Arrival)
  pub opened : Option (List Arrival)

-- before the first event
abbrev pub no_frames : Frames
no_frames = record { closed = []; opened = None }

-- the frame that was open, now closed
abbrev pub closed_frames : Option (List Arrival) → List (List Arrival)
closed_frames None = []
closed_frames (Some arrivals) = arrivals ∷ []

-- a frame closes the one before it, and so does the end
abbrev pub collect : Frames → Event → Frames
collect frames Frame = record { closed = frames.closed ++ closed_frames frames.opened; opened = Some [] }
collect frames (From a) =
    record { closed = frames.closed; opened = option_map (λ arrivals. arrivals ++ a ∷ []) frames.opened }
collect frames End = record { closed = frames.closed ++ closed_frames frames.opened; opened = None }

-- the frames that these events make
abbrev pub frames_of_events : List Event → Frames
frames_of_events es = run_of collect no_frames es

-- the frames that a recording closes, which may have so many, each with its packets
abbrev pub frames_within : ℕ → List ℕ → List (List Arrival)
frames_within limit bytes = (frames_of_events (events_within limit bytes)).closed

-- the frames that a recording closes, each with its packets
abbrev pub frames_of : List ℕ → List (List Arrival)
frames_of bytes = (frames_of_events (events bytes)).closed
