-- The frames in which players join and walk on a map, and the text of the recording.
use Rattle.std.specs.Prelude.{ℕ, zero, suc, ◌+◌, ◌-◌, ◌*◌, ◌/◌, List, ◌++◌, map, min, if◌then◌else◌}
use Rattle.std.specs.List.{range_with_len}
use Rattle.arena_map.specs.Maps.{MapView, is_ready}
use Rattle.packet_read.specs.declared.arrival.Arrival.{Arrival}
use Rattle.demo_lines.specs.InTurn.{text_in_turn}
use Rattle.bot_ways.specs.PlanTexts.{added_lines}
use Rattle.demo_make.specs.Words.{word_at}
use Rattle.demo_make.specs.GeneratedFrames.{join_from, move_from, ports}
use Rattle.demo_walk.specs.Places.{places_of}

-- how many players have sent their joins by a frame, this one included: as many as the map has places in frame 0, and
-- as many more in each 64 frames, evenly spread
abbrev pub joined_by : ℕ → ℕ → ℕ → ℕ
joined_by places players frame = min players (places * (frame + 64) / 64)

-- how many have before it
abbrev pub joined_before : ℕ → ℕ → ℕ → ℕ
joined_before places players zero = 0
joined_before places players (suc frame) = joined_by places players frame

-- the joins of a frame, in the order of ports
abbrev pub joins_in : ℕ → ℕ → ℕ → List Arrival
joins_in players places frame =
    map join_from
    (range_with_len
    (joined_before places players frame + 1)
    (joined_by places players frame - joined_before places players frame))

-- how many moves there are before a frame, for each of which a word is drawn
abbrev pub words_before : ℕ → ℕ → ℕ → ℕ
words_before places players zero = 0
words_before places players (suc frame) = words_before places players frame + joined_by places players frame

-- the move of a player in a frame, by the next word: its number is one more than that of its frame
abbrev pub move_in : ℕ → ℕ → ℕ → ℕ → ℕ → Arrival
move_in seed players places frame port =
    move_from (frame + 1) port (word_at seed (words_before places players frame + (port - 1)))

-- the moves of a frame: one of each player that has sent its join, in the order of ports
abbrev pub moves_in : ℕ → ℕ → ℕ → ℕ → List Arrival
moves_in seed players places frame = map (move_in seed players places frame) (ports (joined_by places players frame))

-- the packets of a frame
abbrev pub walked_in : ℕ → ℕ → ℕ → ℕ → List Arrival
walked_in seed players places frame = joins_in players places frame ++ moves_in seed players places frame

-- the packets of so many frames
abbrev pub walked_frames : ℕ → ℕ → ℕ → ℕ → List (List Arrival)
walked_frames seed players places frames = map (walked_in seed players places) (range_with_len 0 frames)

-- ---- on a map

-- how many frames there are: none where the map has no spawn, since none may come there
abbrev pub frames_for : MapView → ℕ → ℕ
frames_for m frames = if is_ready m then frames else 0

-- the frames on a map
abbrev pub frames_on : MapView → ℕ → ℕ → ℕ → List (List Arrival)
frames_on m seed players frames = walked_frames seed players (places_of m) (frames_for m frames)

-- the text: the lines of the map by kind, the frames, and the end
unfoldable pub walk_text : MapView → ℕ → ℕ → ℕ → List ℕ
walk_text m seed players frames = text_in_turn m.bounds (added_lines m) (frames_on m seed players frames)
