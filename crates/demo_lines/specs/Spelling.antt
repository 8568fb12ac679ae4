-- The text of a recording: how each line is written, and the lines of a map and of frames in their order.
use Rattle.std.specs.Prelude.{◌≡◌, ℕ, ◌≤◌, ◌<◌, ◌==◌, true, if◌then◌else◌, List, [], ◌∷◌, ◌++◌, length, codes, map, flat_map, pos, negsuc}
use Rattle.std.specs.Prelude.{decimal, ⊤}
use Rattle.std.specs.List.{AllByRecursion}
use Rattle.hex.specs.Hex.{encode_lower}
use Rattle.edge_io.specs.Lines.{AreBytes}
use Rattle.edge_io.specs.WholeLines.{unlines}
use Rattle.arena_geo.specs.declared.vec3.Vec3.{Vec3}
use Rattle.arena_geo.specs.Bounds.{Bounds, bounds}
use Rattle.arena_map.specs.declared.limits.TheConstants.{MOST_FRAMES}
use Rattle.arena_map.specs.declared.map_line.MapLine.{MapLine}
use Rattle.arena_map.specs.declared.map_line.MapLine.TheVariants.{Arena, Block, Spawn, Depth, Shots, Blocks}
use Rattle.arena_map.specs.Maps.{MapView, IsMap, is_ready, map_of}
use Rattle.arena_map.specs.MapLines.{IsWithinLimits}
use Rattle.arena_map.specs.Spelling.{map_line_text}
use Rattle.edge_io.specs.Fields.{field_text}
use Rattle.packet_read.specs.declared.arrival.TheConstants.{MOST_ARRIVALS}
use Rattle.packet_read.specs.declared.arrival.Arrival.{Arrival}
use Rattle.demo_lines.specs.declared.line.Line.{Line}
use Rattle.demo_lines.specs.declared.line.Line.TheVariants.{OfMap, Frame, From, End}
use Rattle.demo_lines.specs.declared.event.Event.{Event}
use Rattle.demo_lines.specs.declared.event.Event.TheVariants as events

-- a packet: two hexadecimal digits a byte in lower case, or a dash where there is none
abbrev pub packet_text : List ℕ → List ℕ
packet_text [] = codes "-"
packet_text (b ∷ bytes) = encode_lower (b ∷ bytes)

-- a line: its word and its fields
abbrev pub line_text : Line → List ℕ
line_text (OfMap line) = map_line_text line
line_text Frame = codes "frame"
line_text (From a) = codes "from" ++ field_text (decimal a.port) ++ field_text (packet_text a.bytes)
line_text End = codes "end"

-- a packet that a line has room for: its port is below 65,536, its bytes are bytes, and the line is no longer than 512
pub record IsArrival (a : Arrival) : Type 0 where
  pub port : a.port < 65536
  pub bytes : AreBytes a.bytes
  pub fits : length (line_text (From a)) ≤ 512

-- a line that can be written: its numbers are within their limits, or its packet has room
abbrev pub IsLine : Line → Type 0
IsLine (OfMap line) = IsWithinLimits line
IsLine Frame = ⊤
IsLine (From a) = IsArrival a
IsLine End = ⊤

-- the line of the arena
abbrev pub arena_line : Bounds → Line
arena_line b = OfMap (Arena b.lo b.hi)

-- the line of a block
abbrev pub block_line : Bounds → Line
block_line b = OfMap (Block b.lo b.hi)

-- the line of a spawn
abbrev pub spawn_line : Vec3 → Line
spawn_line at = OfMap (Spawn at)

-- the line that names the depth of a map, if one does
abbrev pub depth_lines_of : MapView → List MapLine
depth_lines_of m = if m.depth_lines == 0 then [] else Depth m.depth ∷ []

-- the line that lets players shoot, if they can
abbrev pub shots_lines_of : MapView → List MapLine
shots_lines_of m = if m.shots then Shots ∷ [] else []

-- the line that says how many blocks there may be, if one does
abbrev pub limit_lines_of : MapView → List MapLine
limit_lines_of m = if m.limit_lines == 0 then [] else Blocks m.most_blocks ∷ []

-- the lines of a map's settings
abbrev pub setting_lines : MapView → List Line
setting_lines m = map OfMap (depth_lines_of m) ++ (map OfMap (shots_lines_of m) ++ map OfMap (limit_lines_of m))

-- the lines of a map: the arena, the settings, the spawns, the blocks and the things, each in their order
abbrev pub map_lines : MapView → List Line
map_lines m =
    arena_line m.bounds
    ∷ setting_lines m ++ (map spawn_line m.spawns ++ (map block_line m.blocks ++ map OfMap m.things))

-- the lines of a frame: the line that opens it, and its packets
abbrev pub frame_lines : List Arrival → List Line
frame_lines arrivals = Frame ∷ map From arrivals

-- the lines of a recording
abbrev pub recording_lines : MapView → List (List Arrival) → List Line
recording_lines m frames = map_lines m ++ (flat_map frame_lines frames ++ End ∷ [])

-- the text of a recording: each line with its line feed
abbrev pub recording_text : MapView → List (List Arrival) → List ℕ
recording_text m frames = unlines (map line_text (recording_lines m frames))

-- the events of a frame
abbrev pub frame_events : List Arrival → List Event
frame_events arrivals = events.Frame ∷ map events.From arrivals

-- the events of a recording
abbrev pub recording_events : List (List Arrival) → List Event
recording_events frames = flat_map frame_events frames ++ events.End ∷ []

-- no more packets than a frame may have, each of which a line has room for
pub record IsFrame (arrivals : List Arrival) : Type 0 where
  pub few : length arrivals ≤ MOST_ARRIVALS
  pub each : AllByRecursion IsArrival arrivals

-- a recording that can be written: a map with a spawn where there is a frame, and at most 100,000 frames
pub record IsRecording (m : MapView) (frames : List (List Arrival)) : Type 0 where
  pub is_map : IsMap m
  pub few : length frames ≤ MOST_FRAMES
  pub each : AllByRecursion IsFrame frames
  pub spawn : 0 < length frames → is_ready m ≡ true

-- a small map: the least arena, a block of at most 1,025, two spawns, a tree of depth 5, and shots
abbrev pub small_map : MapView
small_map = map_of
    (bounds
    (record { x = negsuc 16383; y = pos 0; z = pos 0 })
    (record { x = pos 16384; y = pos 32768; z = pos 32768 }))
    (bounds (record { x = pos 1; y = pos 20; z = pos 300 }) (record { x = pos 4000; y = pos 30000; z = pos 32768 })
    ∷ [])
    (record { x = pos 0; y = pos 4096; z = pos 6144 } ∷ record { x = pos 12288; y = pos 4096; z = pos 6144 } ∷ [])
    []
    (record { depth = 5; names_depth = true; shots = true; most_blocks = 1025; names_blocks = true })

-- the lines of this map after its arena, with the number of blocks first, then the block, and the depth last
abbrev pub small_lines : List MapLine
small_lines =
    Blocks 1025
    ∷ Block (record { x = pos 1; y = pos 20; z = pos 300 }) (record { x = pos 4000; y = pos 30000; z = pos 32768 })
    ∷ Spawn (record { x = pos 0; y = pos 4096; z = pos 6144 })
    ∷ Shots
    ∷ Spawn (record { x = pos 12288; y = pos 4096; z = pos 6144 })
    ∷ Depth 5
    ∷ []

-- its two frames, of two packets and of none
abbrev pub small_frames : List (List Arrival)
small_frames = (record { port = 7; bytes = 1 ∷ 175 ∷ [] } ∷ record { port = 65535; bytes = [] } ∷ []) ∷ [] ∷ []

-- its text
abbrev pub small_text : List ℕ
small_text =
    codes "arena -16384 0 0 16384 32768 32768\ndepth 5\nshots\nblocks 1025\n"
    ++ codes "spawn 0 4096 6144\nspawn 12288 4096 6144\nblock 1 20 300 4000 30000 32768\n"
    ++ codes "frame\nfrom 7 01af\nfrom 65535 -\nframe\nend\n"
