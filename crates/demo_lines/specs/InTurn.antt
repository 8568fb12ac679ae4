-- Recordings of a map that was built line by line: its lines are in any order in which each is accepted in turn.
use Rattle.std.specs.Prelude.{◌≡◌, ℕ, ◌≤◌, ◌<◌, true, List, [], ◌∷◌, ◌++◌, length, fold, map, flat_map, None, ⊤}
use Rattle.std.specs.List.{AllByRecursion}
use Rattle.edge_io.specs.WholeLines.{unlines}
use Rattle.arena_geo.specs.Bounds.{Bounds}
use Rattle.arena_map.specs.declared.limits.TheConstants.{MOST_FRAMES}
use Rattle.arena_map.specs.declared.map_line.MapLine.{MapLine}
use Rattle.arena_map.specs.declared.map_line.MapLine.TheVariants.{Arena}
use Rattle.arena_map.specs.MapLines.{IsWithinLimits, is_added}
use Rattle.arena_map.specs.Maps.{MapView, plain_map, is_ready}
use Rattle.arena_map.specs.Positions.{is_wide}
use Rattle.arena_map.specs.Rules.{with_line, broken_rule}
use Rattle.packet_read.specs.declared.arrival.Arrival.{Arrival}
use Rattle.demo_lines.specs.declared.line.Line.{Line}
use Rattle.demo_lines.specs.declared.line.Line.TheVariants.{OfMap, End}
use Rattle.demo_lines.specs.Spelling.{arena_line, frame_lines, line_text, IsFrame}

-- a map takes the line: its numbers are within their limits, it isn't that of an arena, and it breaks no rule there
pub record IsAccepted (m : MapView) (line : MapLine) : Type 0 where
  pub limits : IsWithinLimits line
  pub added : is_added line ≡ true
  pub rules : broken_rule m line ≡ None

-- a map takes these lines, each after those before it
abbrev pub AreAccepted : MapView → List MapLine → Type 0
AreAccepted m [] = ⊤
AreAccepted m (line ∷ more) = IsAccepted m line × AreAccepted (with_line m line) more

-- the map of an arena with these lines, added one after another
abbrev pub map_in_turn : Bounds → List MapLine → MapView
map_in_turn arena added = fold with_line (plain_map arena [] [] []) added

-- the lines of its recording: the arena, these lines, the frames with their packets, and the end
abbrev pub lines_in_turn : Bounds → List MapLine → List (List Arrival) → List Line
lines_in_turn arena added frames =
    arena_line arena ∷ map OfMap added ++ (flat_map frame_lines frames ++ End ∷ [])

-- the text of its recording: each line with its line feed
abbrev pub text_in_turn : Bounds → List MapLine → List (List Arrival) → List ℕ
text_in_turn arena added frames = unlines (map line_text (lines_in_turn arena added frames))

-- a recording that can be written so: the arena is near and wide enough, its map takes each line in turn, there is a
-- spawn where there is a frame, and there are at most 100,000 frames
pub record IsBuilt (arena : Bounds) (added : List MapLine) (frames : List (List Arrival)) : Type 0 where
  pub near : IsWithinLimits (Arena arena.lo arena.hi)
  pub wide : is_wide arena.lo arena.hi ≡ true
  pub accepted : AreAccepted (plain_map arena [] [] []) added
  pub few : length frames ≤ MOST_FRAMES
  pub each : AllByRecursion IsFrame frames
  pub spawn : 0 < length frames → is_ready (map_in_turn arena added) ≡ true
