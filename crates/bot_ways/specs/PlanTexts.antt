-- What is written of a plan: a recording in which a bot walks, and after its end the certificate.
use Rattle.std.specs.Prelude.{◌≡◌, ℕ, ◌≤◌, ◌==◌, if◌then◌else◌, List, [], ◌∷◌, ◌++◌, length, map, flat_map, codes, decimal, Option, Some, None}
use Rattle.edge_io.specs.Fields.{field_text}
use Rattle.edge_io.specs.WholeLines.{unlines}
use Rattle.arena_geo.specs.Bounds.{Bounds}
use Rattle.arena_map.specs.declared.limits.TheConstants.{DEFAULT_BLOCKS, DEFAULT_DEPTH}
use Rattle.arena_map.specs.declared.map_line.MapLine.{MapLine}
use Rattle.arena_map.specs.declared.map_line.MapLine.TheVariants.{Arena, Block, Spawn, Depth, Blocks}
use Rattle.arena_map.specs.Maps.{MapView}
use Rattle.arena_map.specs.Spelling.{map_line_text}
use Rattle.packet_read.specs.declared.arrival.Arrival.{Arrival}
use Rattle.demo_lines.specs.Spelling.{line_text, frame_lines, shots_lines_of}
use Rattle.demo_lines.specs.InTurn.{text_in_turn}
use Rattle.bot_ways.specs.declared.plan.Plan.{Plan}
use Rattle.bot_ways.specs.Walks.{IsWalk, length_to}
use Rattle.bot_ways.specs.Ways.{IsWay, IsCertificate}
use Rattle.bot_ways.specs.Moves.{waypoint_points, length_through, bot_frames}

-- ---- plans

-- this is the plan of the way to a waypoint, which has this length
pub record IsPlanTo (m : MapView) (target far : ℕ) (plan : Plan) : Type 0 where
  pub certificate : IsCertificate m plan.least
  pub reached : length_to plan.least target ≡ Some far
  pub way : IsWay m plan.least target plan.way
  pub walk : IsWalk m 0 target plan.way far
  pub few : length plan.way ≤ 64

-- this is a plan of the way to some waypoint
pub record IsPlan (m : MapView) (plan : Plan) : Type 0 where
  pub target : ℕ
  pub far : ℕ
  pub is : IsPlanTo m target far plan

-- ---- the recording

-- the line of a block
abbrev pub block_of : Bounds → MapLine
block_of b = Block b.lo b.hi

-- the lines of frames
abbrev pub frame_text : List Arrival → List ℕ
frame_text arrivals = unlines (map line_text (frame_lines arrivals))

abbrev pub frames_text : List (List Arrival) → List ℕ
frames_text frames = flat_map frame_text frames

-- the line of the depth, where it isn't the one that a map has anyway
abbrev pub depth_lines_of : MapView → List MapLine
depth_lines_of m = if m.depth == DEFAULT_DEPTH then [] else Depth m.depth ∷ []

-- the line that says how many blocks there may be, where they aren't as many as without it
abbrev pub limit_lines_of : MapView → List MapLine
limit_lines_of m = if m.most_blocks == DEFAULT_BLOCKS then [] else Blocks m.most_blocks ∷ []

-- the lines of a map's settings
abbrev pub setting_lines_of : MapView → List MapLine
setting_lines_of m = depth_lines_of m ++ (shots_lines_of m ++ limit_lines_of m)

-- the lines of a map after that of its arena: the settings, the blocks, the spawns and then the things by id
abbrev pub added_lines : MapView → List MapLine
added_lines m = setting_lines_of m ++ (map block_of m.blocks ++ (map Spawn m.spawns ++ m.things))

-- the map of these lines: the same, without a line that names the depth which a map has anyway, or as many blocks
-- The lines stand by kind, so a plan that is read again gives the same text; `depth 4` isn't written again, nor `blocks 1024`.
abbrev pub as_written : MapView → MapView
as_written m = record m {
  depth_lines = if m.depth == DEFAULT_DEPTH then 0 else 1;
  limit_lines = if m.most_blocks == DEFAULT_BLOCKS then 0 else 1;
}

-- map lines, each with its line feed
abbrev pub lines_text : List MapLine → List ℕ
lines_text lines = unlines (map map_line_text lines)

-- the lines of the arena, of the depth, of shots, of how many blocks there may be, of the blocks, of the spawns and of the
-- things
abbrev pub arena_text : MapView → List ℕ
arena_text m = lines_text (Arena m.bounds.lo m.bounds.hi ∷ [])

abbrev pub depth_text : MapView → List ℕ
depth_text m = lines_text (depth_lines_of m)

abbrev pub shots_text : MapView → List ℕ
shots_text m = lines_text (shots_lines_of m)

abbrev pub limit_text : MapView → List ℕ
limit_text m = lines_text (limit_lines_of m)

abbrev pub settings_text : MapView → List ℕ
settings_text m = depth_text m ++ (shots_text m ++ limit_text m)

abbrev pub blocks_text : MapView → List ℕ
blocks_text m = lines_text (map block_of m.blocks)

abbrev pub spawns_text : MapView → List ℕ
spawns_text m = lines_text (map Spawn m.spawns)

abbrev pub things_text : MapView → List ℕ
things_text m = lines_text m.things

-- the lines of a map
abbrev pub map_text : MapView → List ℕ
map_text m = arena_text m ++ (settings_text m ++ (blocks_text m ++ (spawns_text m ++ things_text m)))

-- the recording of a walk: the map, the frame in which the bot joins, a frame for each of its moves, and the end
abbrev pub walk_text : MapView → List ℕ → List ℕ
walk_text m way = text_in_turn m.bounds (added_lines m) (bot_frames m way)

-- ---- the certificate

-- a line: its word, its fields, and its line feed
abbrev pub line_with : List ℕ → List (List ℕ) → List ℕ
line_with word fields = word ++ flat_map field_text fields ++ 10 ∷ []

-- the line of a way: its waypoints
abbrev pub way_line : List ℕ → List ℕ
way_line way = line_with (codes "way") (map decimal way)

-- the line of a length
abbrev pub length_line : ℕ → List ℕ
length_line n = line_with (codes "length") (decimal n ∷ [])

-- a least length, or a dash where there is none
abbrev pub least_field : Option ℕ → List ℕ
least_field None = codes "-"
least_field (Some n) = decimal n

-- the line of the least lengths, one for each waypoint
abbrev pub least_line : List (Option ℕ) → List ℕ
least_line least = line_with (codes "least") (map least_field least)

-- the way, its length, and the least lengths
abbrev pub certificate_text : MapView → Plan → List ℕ
certificate_text m plan =
    way_line plan.way ++ (length_line (length_through (waypoint_points m plan.way)) ++ least_line plan.least)

-- ---- the whole

-- what is written of a plan
unfoldable pub plan_text : MapView → Plan → List ℕ
plan_text m plan = walk_text m plan.way ++ certificate_text m plan
