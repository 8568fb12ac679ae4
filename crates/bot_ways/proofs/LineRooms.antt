-- The lines of a map have at most so many bytes.
use Rattle.std.proofs.Common.{◌≡◌, ℕ, ◌+◌, ◌*◌, ◌^◌, ◌<◌, ◌≤◌, ◌≤ℤ◌, ◌==◌, ℤ, pos, negsuc, Bool, true, false, cond, List, [], ◌∷◌, ◌++◌, length, map, count_by, decimal, refl, ap, arith, length-append}
use Rattle.std.specs.List.{AllByRecursion}
use Rattle.std.specs.Fmt.{signed_decimal}
use Rattle.std.proofs.lemmas.Fmt.{length-decimal-le}
use Rattle.std.proofs.lemmas.Int.{ints}
use Rattle.std.proofs.lemmas.List.Elements.{recursion_from_All}
use Rattle.edge_io.specs.Fields.{field_text}
use Rattle.arena_geo.specs.declared.vec3.Vec3.{Vec3}
use Rattle.arena_geo.specs.Bounds.{Bounds}
use Rattle.entity_recs.specs.declared.kind.Kind.{Kind}
use Rattle.arena_map.specs.declared.limits.TheConstants.{DEFAULT_BLOCKS, DEFAULT_DEPTH}
use Rattle.arena_map.specs.declared.map_line.MapLine.{MapLine}
use Rattle.arena_map.specs.declared.map_line.MapLine.TheVariants.{Arena, Block, Spawn, Item, Teleport, Goal, Lift, Depth, Shots, Blocks}
use Rattle.arena_map.specs.MapLines.{IsWithinLimits, is_thing_line, is_item_line, is_teleport_line, is_goal_line, is_lift_line}
use Rattle.arena_map.specs.Maps.{MapView, IsMap, IsThingInside, plain_map}
use Rattle.arena_map.specs.Rules.{with_line}
use Rattle.arena_map.specs.Spelling.{word_of, point_text, fields_text, map_line_text}
use Rattle.arena_map.specs.Words.{word_text, kind_text}
use Rattle.arena_map.proofs.Counting.{count-cons}
use Rattle.demo_lines.specs.InTurn.{AreAccepted}
use Rattle.demo_lines.specs.Spelling.{shots_lines_of}
use Rattle.demo_lines.proofs.Written.{point-long, corners-long, kind-long}
use Rattle.bot_ways.specs.PlanTexts.{block_of, depth_lines_of, limit_lines_of, setting_lines_of, added_lines, lines_text, settings_text, blocks_text, spawns_text, things_text, map_text, arena_text}
use Rattle.bot_ways.specs.Rooms.{room_of_things, room_of_map}
use Rattle.bot_ways.proofs.Gathering.{text-both, settings-parts}
use Rattle.bot_ways.proofs.MapsBefore.{lines-accepted}

-- ---- a line

-- a number from 1 on has no sign
positive-long : (digits most : ℕ) (z : ℤ) → pos 1 ≤ℤ z → z ≤ℤ pos most → 0 < digits → most ≤ 1048576 → most < 10 ^ digits → length (signed_decimal z) ≤ digits
positive-long digits most (pos n) low high some near few = length-decimal-le digits n some (omega (arith, ints, high, few)) (omega (arith, ints, high, near))
positive-long digits most (negsuc n) low high some near few = absurd (omega (arith, ints, low))

-- room for a line and its line feed
abbrev pub room_of_line : MapLine → ℕ
room_of_line (Arena lo hi) = 60
room_of_line (Block lo hi) = 60
room_of_line (Spawn at) = 33
room_of_line (Item at kind delay) = 43
room_of_line (Teleport lo hi dest) = 90
room_of_line (Goal lo hi) = 59
room_of_line (Lift lo hi rise speed) = 72
room_of_line (Depth depth) = 8
room_of_line Shots = 6
room_of_line (Blocks most) = 12

item-long : (at : Vec3) (kind : Kind) (delay : ℕ) → IsWithinLimits (Item at kind delay) → length (fields_text (Item at kind delay)) ≤ 38
item-long at kind delay is =
    let k = field_text (kind_text kind) in
    let d = field_text (decimal delay) in
    omega (
      arith,
      length-append (point_text at ++ k) d,
      length-append (point_text at) k,
      point-long at is.0,
      kind-long kind is.1,
      length-decimal-le 5 delay (omega arith) (omega (arith, is.3)) (omega (arith, is.3)),
    )

lift-long : (lo hi : Vec3) (rise speed : ℤ) → IsWithinLimits (Lift lo hi rise speed) → length (fields_text (Lift lo hi rise speed)) ≤ 67
lift-long lo hi rise speed is =
    let c = point_text lo ++ point_text hi in
    let r = field_text (signed_decimal rise) in
    let s = field_text (signed_decimal speed) in
    omega (
      arith,
      length-append (c ++ r) s,
      length-append c r,
      corners-long lo hi is.0 is.1,
      positive-long 7 1048576 rise is.2 is.3 (omega arith) (omega arith) (omega arith),
      positive-long 4 2560 speed is.4 is.5 (omega arith) (omega arith) (omega arith),
    )

fields-long : (line : MapLine) → IsWithinLimits line → length (word_text (word_of line)) + length (fields_text line) + 1 ≤ room_of_line line
fields-long (Arena lo hi) is = omega (arith, corners-long lo hi is.0 is.1)
fields-long (Block lo hi) is = omega (arith, corners-long lo hi is.0 is.1)
fields-long (Spawn at) is = omega (arith, point-long at is)
fields-long (Item at kind delay) is = omega (arith, item-long at kind delay is)
fields-long (Teleport lo hi dest) is =
    omega (arith, length-append (point_text lo ++ point_text hi) (point_text dest), corners-long lo hi is.0 is.1, point-long dest is.2)
fields-long (Goal lo hi) is = omega (arith, corners-long lo hi is.0 is.1)
fields-long (Lift lo hi rise speed) is = omega (arith, lift-long lo hi rise speed is)
fields-long (Depth depth) is = omega (arith, length-decimal-le 1 depth (omega arith) (omega (arith, is.most)) (omega (arith, is.most)))
fields-long Shots is = omega arith
fields-long (Blocks most) is = omega (arith, length-decimal-le 4 most (omega arith) (omega (arith, is.most)) (omega (arith, is.most)))

-- ---- lines

-- room for these lines
abbrev pub room_of_lines : List MapLine → ℕ
room_of_lines [] = 0
room_of_lines (line ∷ lines) = room_of_line line + room_of_lines lines

pub lines-long : (lines : List MapLine) → AllByRecursion IsWithinLimits lines → length (lines_text lines) ≤ room_of_lines lines
lines-long [] each = omega arith
lines-long (line ∷ lines) each =
    omega (
      arith,
      length-append (map_line_text line ++ 10 ∷ []) (lines_text lines),
      length-append (map_line_text line) (10 ∷ []),
      length-append (word_text (word_of line)) (fields_text line),
      fields-long line each.0,
      lines-long lines each.1,
    )

rooms-both : (one more : List MapLine) → room_of_lines (one ++ more) ≡ room_of_lines one + room_of_lines more
rooms-both [] more = omega arith
rooms-both (line ∷ one) more = omega (arith, rooms-both one more)

blocks-rooms : (blocks : List Bounds) → room_of_lines (map block_of blocks) ≡ 60 * length blocks
blocks-rooms [] = refl
blocks-rooms (b ∷ blocks) = omega (arith, blocks-rooms blocks)

spawns-rooms : (spawns : List Vec3) → room_of_lines (map Spawn spawns) ≡ 33 * length spawns
spawns-rooms [] = refl
spawns-rooms (at ∷ spawns) = omega (arith, spawns-rooms spawns)

-- so many lines of each kind of things
abbrev counted : List MapLine → ℕ
counted things =
    43 * count_by is_item_line things + 90 * count_by is_teleport_line things + 59 * count_by is_goal_line things
    + 72 * count_by is_lift_line things

-- one thing more
counted-more : (line : MapLine) (things : List MapLine) → is_thing_line line ≡ true → counted (line ∷ things) ≡ room_of_line line + counted things
counted-more line things thing =
    omega (arith, kind_of line thing, count-cons is_item_line line things, count-cons is_teleport_line line things, count-cons is_goal_line line things, count-cons is_lift_line line things)
  where
    kind_of : (l : MapLine) → is_thing_line l ≡ true
        → room_of_line l ≡ 43 * cond (is_item_line l) 1 0 + 90 * cond (is_teleport_line l) 1 0 + 59 * cond (is_goal_line l) 1 0 + 72 * cond (is_lift_line l) 1 0
    kind_of (Arena lo hi) thing = cc
    kind_of (Block lo hi) thing = cc
    kind_of (Spawn at) thing = cc
    kind_of (Item at kind delay) thing = refl
    kind_of (Teleport lo hi dest) thing = refl
    kind_of (Goal lo hi) thing = refl
    kind_of (Lift lo hi rise speed) thing = refl
    kind_of (Depth depth) thing = cc
    kind_of Shots thing = cc
    kind_of (Blocks most) thing = cc

things-rooms : (arena : Bounds) (things : List MapLine) → AllByRecursion (IsThingInside arena) things → room_of_lines things ≡ counted things
things-rooms arena [] each = refl
things-rooms arena (line ∷ things) each = omega (arith, counted-more line things each.0.thing, things-rooms arena things each.1)

-- ---- the lines of a map

depth-rooms : (m : MapView) → room_of_lines (depth_lines_of m) ≤ 8
depth-rooms m = by (m.depth == DEFAULT_DEPTH)
  where
    by : (default : Bool) → room_of_lines (cond default [] (Depth m.depth ∷ [])) ≤ 8
    by true = omega arith
    by false = omega arith

shots-rooms : (m : MapView) → room_of_lines (shots_lines_of m) ≤ 6
shots-rooms m = by m.shots
  where
    by : (shots : Bool) → room_of_lines (cond shots (Shots ∷ []) []) ≤ 6
    by true = omega arith
    by false = omega arith

limit-rooms : (m : MapView) → room_of_lines (limit_lines_of m) ≤ 12
limit-rooms m = by (m.most_blocks == DEFAULT_BLOCKS)
  where
    by : (default : Bool) → room_of_lines (cond default [] (Blocks m.most_blocks ∷ [])) ≤ 12
    by true = omega arith
    by false = omega arith

settings-rooms : (m : MapView) → room_of_lines (setting_lines_of m) ≤ 26
settings-rooms m =
    omega (
      arith,
      rooms-both (depth_lines_of m) (shots_lines_of m ++ limit_lines_of m),
      rooms-both (shots_lines_of m) (limit_lines_of m),
      depth-rooms m,
      shots-rooms m,
      limit-rooms m,
    )

-- lines that a map takes are within their limits
within : (m : MapView) (lines : List MapLine) → AreAccepted m lines → AllByRecursion IsWithinLimits lines
within m [] accepted = tt
within m (line ∷ lines) accepted = (accepted.0.limits, within (with_line m line) lines accepted.1)

added-rooms : (m : MapView) → IsMap m → room_of_lines (added_lines m) ≤ 26 + 60 * length m.blocks + 33 * length m.spawns + room_of_things m
added-rooms m is =
    let things = recursion_from_All (IsThingInside m.bounds) m.things is.things in
    let placed = map Spawn m.spawns ++ m.things in
    let all = map block_of m.blocks ++ placed in
    omega (
      arith,
      rooms-both (setting_lines_of m) all,
      rooms-both (map block_of m.blocks) placed,
      rooms-both (map Spawn m.spawns) m.things,
      settings-rooms m,
      blocks-rooms m.blocks,
      spawns-rooms m.spawns,
      things-rooms m.bounds m.things things,
    )

-- the parts of a map's text
map-length : (m : MapView) → length (map_text m) ≡ length (arena_text m) + length (lines_text (added_lines m))
map-length m =
    let placed = map Spawn m.spawns ++ m.things in
    let all = map block_of m.blocks ++ placed in
    omega (
      arith,
      length-append (arena_text m) (settings_text m ++ (blocks_text m ++ (spawns_text m ++ things_text m))),
      length-append (settings_text m) (blocks_text m ++ (spawns_text m ++ things_text m)),
      length-append (blocks_text m) (spawns_text m ++ things_text m),
      length-append (spawns_text m) (things_text m),
      ap (λ (t : List ℕ). length t) (settings-parts m),
      both (setting_lines_of m) all,
      both (map block_of m.blocks) placed,
      both (map Spawn m.spawns) m.things,
    )
  where
    both : (one more : List MapLine) → length (lines_text (one ++ more)) ≡ length (lines_text one) + length (lines_text more)
    both one more = omega (arith, ap (λ (t : List ℕ). length t) (text-both one more), length-append (lines_text one) (lines_text more))

pub map-long : (m : MapView) → IsMap m → length (map_text m) ≤ room_of_map m
map-long m is =
    omega (
      arith,
      map-length m,
      lines-long (Arena m.bounds.lo m.bounds.hi ∷ []) ((is.lo, is.hi), tt),
      lines-long (added_lines m) (within (plain_map m.bounds [] [] []) (added_lines m) (lines-accepted m is)),
      added-rooms m is,
    )
