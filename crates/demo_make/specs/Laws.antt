-- What holds of all generated recordings.
use Rattle.std.specs.Prelude.{◌≡◌, ℕ, ◌+◌, ◌*◌, ◌^◌, ◌≤◌, ◌<◌, false, List, [], ◌∷◌, ◌++◌, length, map, count_by, Some, None, Ok}
use Rattle.std.specs.List.{range_with_len}
use Rattle.std.specs.Int.{w64, from_le_bytes, to_le_bytes}
use Rattle.rand_core.specs.Steps.{first_words}
use Rattle.rand_xoshiro.specs.SplitMix64.{mix_u64}
use Rattle.packet_read.specs.declared.packet.Packet.TheVariants.{Join, Move, Moves}
use Rattle.packet_read.specs.Reading.{reading}
use Rattle.arena_map.specs.declared.limits.TheConstants.{DEFAULT_DEPTH}
use Rattle.arena_map.specs.Maps.{IsMap}
use Rattle.arena_map.specs.MapLines.{is_item_line, is_teleport_line, is_goal_line, is_lift_line}
use Rattle.demo_lines.specs.declared.event.Event.{Event}
use Rattle.demo_lines.specs.Bytes.{fault, events, map_of}
use Rattle.demo_lines.specs.Spelling.{recording_lines}
use Rattle.demo_make.specs.declared.map_lines.TheConstants.{MAP_LINES}
use Rattle.demo_make.specs.Words.{word_at}
use Rattle.demo_make.specs.GeneratedMap.{generated_map, generated_lines, things}
use Rattle.demo_make.specs.GeneratedFrames.{IsInRange, join_from, move_from, move_of, ports, moves_in, arrivals_in}
use Rattle.demo_make.specs.GeneratedFrames.{generated_frames, generated_events, generated_text}
use Rattle.demo_make.specs.ResentFrames.{repeat_of, repeat_from, resent_events, resent_text}

-- the text of a recording has no fault, and gives the map and these events
pub record IsReadAs (text : List ℕ) (es : List Event) : Type 0 where
  pub fault : fault text ≡ None
  pub map : map_of text ≡ Some generated_map
  pub events : events text ≡ es

-- each generated recording is in the grammar, and is read as what was written
abbrev pub GeneratedRecordingsReadBack : Type 0
GeneratedRecordingsReadBack =
    (seed players frames : ℕ) → IsInRange players frames
    → IsReadAs (generated_text seed players frames) (generated_events seed players frames)

-- so is each in which commands are resent
abbrev pub ResentRecordingsReadBack : Type 0
ResentRecordingsReadBack =
    (seed players frames : ℕ) → IsInRange players frames
    → IsReadAs (resent_text seed players frames) (resent_events seed players frames)

-- the map keeps the rules of maps, and has so many of each; its tree is as deep as one is without a line that names it,
-- and players can't shoot
pub record MapIsKnown : Type 0 where
  pub is_map : IsMap generated_map
  pub lines : length generated_lines ≡ 101
  pub limit : MAP_LINES ≡ 101
  pub spawns : length generated_map.spawns ≡ 64
  pub blocks : length generated_map.blocks ≡ 16
  pub items : count_by is_item_line things ≡ 16
  pub teleporters : count_by is_teleport_line things ≡ 2
  pub goals : count_by is_goal_line things ≡ 1
  pub lifts : count_by is_lift_line things ≡ 1
  pub depth : generated_map.depth ≡ DEFAULT_DEPTH
  pub shots : generated_map.shots ≡ false

-- frame 0 has a join of each player and then a move of each, and each later frame a move of each; with the map and the
-- end these are so many lines
pub record FramesAreKnown : Type 0 where
  pub first : (seed players : ℕ) → arrivals_in seed players 0 ≡ map join_from (ports players) ++ moves_in seed players 0
  pub later : (seed players frame : ℕ) → 0 < frame → arrivals_in seed players frame ≡ moves_in seed players frame
  pub joins : (players : ℕ) → length (map join_from (ports players)) ≡ players
  pub moves : (seed players frame : ℕ) → length (moves_in seed players frame) ≡ players
  pub lines : (seed players frames : ℕ) → 1 ≤ frames
      → length (recording_lines generated_map (generated_frames seed players frames))
      ≡ 102 + players + frames * (players + 1)

-- the text of a recording has at most 8,304 bytes for the map and the end, 13 for each join, and in each frame 6 and 33
-- for each move
abbrev pub GeneratedTextsAreBounded : Type 0
GeneratedTextsAreBounded =
    (seed players frames : ℕ) → IsInRange players frames
    → length (generated_text seed players frames) ≤ 8304 + 13 * players + frames * (6 + 33 * players)

-- where commands are resent there are also 13 bytes for each join, and in each frame 6 and 59 for each player
abbrev pub ResentTextsAreBounded : Type 0
ResentTextsAreBounded =
    (seed players frames : ℕ) → IsInRange players frames
    → length (resent_text seed players frames) ≤ 8304 + 13 * players + frames * (6 + 59 * players)

-- the packets are read as joins, as moves with their numbers, and as the commands that they repeat, of which the newest
-- has a number one more than that of its frame
pub record PacketsAreRead : Type 0 where
  pub joins : (port : ℕ) → reading (join_from port).bytes ≡ Ok Join
  pub moves : (seq port word : ℕ) → seq < 2 ^ 32
      → reading (move_from seq port word).bytes ≡ Ok (Move (move_of seq word))
  pub repeats : (seed players frame port : ℕ) → frame + 1 < 2 ^ 32
      → reading (repeat_from seed players frame port).bytes ≡ Ok (Moves (repeat_of seed players frame port))

-- the words of a seed are those of SplitMix64 from the state that the seed's 8 bytes give, lowest first; two published
-- ones are these
pub record WordsAreKnown : Type 0 where
  pub words : (seed count : ℕ) → first_words mix_u64 count seed ≡ map (word_at seed) (range_with_len 0 count)
  pub seeded : (seed : ℕ) → seed < 2 ^ 64 → from_le_bytes w64 (to_le_bytes w64 seed) ≡ seed
  pub published : map (word_at 1477776061723855037) (range_with_len 0 2)
      ≡ 1985237415132408290 ∷ 2979275885539914483 ∷ []
