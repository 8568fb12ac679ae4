-- The packets of every generated recording, frame by frame, and its text.
use Rattle.std.specs.Prelude.{ℕ, ◌+◌, ◌-◌, ◌*◌, ◌/◌, ◌%◌, ◌^◌, ◌≤◌, ◌==◌, List, [], ◌++◌, map, ℤ, pos, ◌-ℤ◌}
use Rattle.std.specs.Prelude.{if◌then◌else◌}
use Rattle.std.specs.List.{range_with_len}
use Rattle.arena_map.specs.declared.limits.TheConstants.{MOST_FRAMES}
use Rattle.packet_read.specs.declared.block_list.CmdBlock.{CmdBlock}
use Rattle.packet_read.specs.declared.move_packet.MovePacket.{MovePacket}
use Rattle.packet_read.specs.declared.packet.Packet.TheVariants.{Join, Move}
use Rattle.packet_read.specs.Spelling.{spelling}
use Rattle.packet_read.specs.Commands.{move_with_number}
use Rattle.packet_read.specs.declared.arrival.Arrival.{Arrival}
use Rattle.demo_lines.specs.declared.event.Event.{Event}
use Rattle.demo_lines.specs.Spelling.{recording_text, recording_events}
use Rattle.demo_make.specs.Words.{word_at}
use Rattle.demo_make.specs.GeneratedMap.{generated_map}

-- 1 to 64 players, and 1 to 100,000 frames
pub record IsInRange (players frames : ℕ) : Type 0 where
  pub some_players : 1 ≤ players
  pub few_players : players ≤ 64
  pub some_frames : 1 ≤ frames
  pub few_frames : frames ≤ MOST_FRAMES

-- ---- the packets

-- a wish that a word gives: -320 to 320 units of Quake a second
abbrev pub wish_of : ℕ → ℤ
wish_of word = pos (word % 641) -ℤ pos 320

-- the command that a word gives: 50 milliseconds, and a jump in one of 16
abbrev pub command_of : ℕ → CmdBlock
command_of word = record {
  ms = 50;
  wish_x = wish_of word;
  wish_y = wish_of (word / 2 ^ 16);
  buttons = if word / 2 ^ 32 % 16 == 0 then 1 else 0;
}

-- the move that a word gives, with this sequence number
abbrev pub move_of : ℕ → ℕ → MovePacket
move_of seq word = move_with_number seq (command_of word)

-- a packet with these bytes from a port
abbrev pub arrival : ℕ → List ℕ → Arrival
arrival port bytes = record { port = port; bytes = bytes }

-- the join of a player, and its move that a word gives
abbrev pub join_from : ℕ → Arrival
join_from port = arrival port (spelling Join)

abbrev pub move_from : ℕ → ℕ → ℕ → Arrival
move_from seq port word = arrival port (spelling (Move (move_of seq word)))

-- ---- the frames

-- the ports of the players, 1 to their number
abbrev pub ports : ℕ → List ℕ
ports players = range_with_len 1 players

-- the joins of a frame: those of all players in frame 0, and none later
abbrev pub joins_in : ℕ → ℕ → List Arrival
joins_in players frame = if frame == 0 then map join_from (ports players) else []

-- the move of a player in a frame, by the next word: its number is one more than that of its frame
abbrev pub move_in : ℕ → ℕ → ℕ → ℕ → Arrival
move_in seed players frame port = move_from (frame + 1) port (word_at seed (frame * players + (port - 1)))

-- the moves of a frame: one of each player, in the order of their ports, by one more word each
abbrev pub moves_in : ℕ → ℕ → ℕ → List Arrival
moves_in seed players frame = map (move_in seed players frame) (ports players)

-- the packets of a frame
abbrev pub arrivals_in : ℕ → ℕ → ℕ → List Arrival
arrivals_in seed players frame = joins_in players frame ++ moves_in seed players frame

-- the packets of all frames
abbrev pub generated_frames : ℕ → ℕ → ℕ → List (List Arrival)
generated_frames seed players frames = map (arrivals_in seed players) (range_with_len 0 frames)

-- ---- the recording

-- its events
unfoldable pub generated_events : ℕ → ℕ → ℕ → List Event
generated_events seed players frames = recording_events (generated_frames seed players frames)

-- its text
unfoldable pub generated_text : ℕ → ℕ → ℕ → List ℕ
generated_text seed players frames = recording_text generated_map (generated_frames seed players frames)
