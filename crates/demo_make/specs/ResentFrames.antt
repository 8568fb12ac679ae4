-- The packets of every recording in which commands are resent, frame by frame, and its text.
use Rattle.std.specs.Prelude.{ℕ, ◌+◌, ◌-◌, ◌*◌, ◌%◌, ◌==◌, ◌||◌, Bool, List, ◌++◌, map, filter, min}
use Rattle.std.specs.List.{range_with_len}
use Rattle.packet_read.specs.declared.block_list.CmdBlock.{CmdBlock}
use Rattle.packet_read.specs.declared.moves_packet.MovesPacket.{MovesPacket}
use Rattle.packet_read.specs.declared.packet.Packet.TheVariants.{Moves}
use Rattle.packet_read.specs.Spelling.{spelling}
use Rattle.packet_read.specs.declared.arrival.Arrival.{Arrival}
use Rattle.demo_lines.specs.declared.event.Event.{Event}
use Rattle.demo_lines.specs.Spelling.{recording_text, recording_events}
use Rattle.demo_make.specs.Words.{word_at}
use Rattle.demo_make.specs.GeneratedMap.{generated_map}
use Rattle.demo_make.specs.GeneratedFrames.{command_of, arrival, ports, joins_in}

-- ---- the packets

-- the command of a player in a frame, by the same word as the move of a generated recording
abbrev pub command_in : ℕ → ℕ → ℕ → ℕ → CmdBlock
command_in seed players port frame = command_of (word_at seed (frame * players + (port - 1)))

-- how many commands a packet of this frame has: the newest and the two before it, where there are so many
abbrev pub how_many_in : ℕ → ℕ
how_many_in frame = min 3 (frame + 1)

-- the last commands of a player up to this frame, the oldest first
abbrev pub last_commands : ℕ → ℕ → ℕ → ℕ → List CmdBlock
last_commands seed players frame port =
    map (command_in seed players port) (range_with_len (frame + 1 - how_many_in frame) (how_many_in frame))

-- those commands, of which the newest has a number one more than that of the frame
abbrev pub repeat_of : ℕ → ℕ → ℕ → ℕ → MovesPacket
repeat_of seed players frame port = record { seq = frame + 1; cmds = last_commands seed players frame port }

-- the packet of a player in a frame, which has them
abbrev pub repeat_from : ℕ → ℕ → ℕ → ℕ → Arrival
repeat_from seed players frame port = arrival port (spelling (Moves (repeat_of seed players frame port)))

-- ---- the frames

-- whether the packet of a player arrives: one of three does, and each one of the last frame
abbrev pub arrives : ℕ → ℕ → ℕ → Bool
arrives frames frame port = ((frame + port) % 3 == 0) || (frame + 1 == frames)

-- the packets with commands that arrive in a frame, in the order of their ports
abbrev pub repeats_in : ℕ → ℕ → ℕ → ℕ → List Arrival
repeats_in seed players frames frame =
    map (repeat_from seed players frame) (filter (arrives frames frame) (ports players))

-- the packets of a frame
abbrev pub resent_in : ℕ → ℕ → ℕ → ℕ → List Arrival
resent_in seed players frames frame = joins_in players frame ++ repeats_in seed players frames frame

-- the packets of all frames
abbrev pub resent_frames : ℕ → ℕ → ℕ → List (List Arrival)
resent_frames seed players frames = map (resent_in seed players frames) (range_with_len 0 frames)

-- ---- the recording

-- its events
unfoldable pub resent_events : ℕ → ℕ → ℕ → List Event
resent_events seed players frames = recording_events (resent_frames seed players frames)

-- its text
unfoldable pub resent_text : ℕ → ℕ → ℕ → List ℕ
resent_text seed players frames = recording_text generated_map (resent_frames seed players frames)
