-- What holds of what is known of a recording.
use Rattle.std.specs.Prelude.{◌≡◌, ◌+◌, ◌≤◌, true, None, IfSome, IsSome, ⊤}
use Rattle.packet_read.specs.declared.arrival.TheConstants.{MOST_ARRIVALS}
use Rattle.arena_map.specs.declared.limits.TheConstants.{MOST_BLOCKS, MOST_FRAMES}
use Rattle.arena_map.specs.declared.map_line.MapLine.{MapLine}
use Rattle.arena_map.specs.Maps.{MapView, is_ready}
use Rattle.arena_map.specs.MapLines.{IsWithinLimits, is_arena, is_added}
use Rattle.demo_lines.specs.declared.line.Line.{Line}
use Rattle.demo_lines.specs.declared.line.Line.TheVariants.{OfMap, Frame, From, End}
use Rattle.demo_lines.specs.declared.stage.Stage.{Stage}
use Rattle.demo_lines.specs.declared.stage.Stage.TheVariants.{Start, Map, Playing, Ended, Refused}
use Rattle.demo_lines.specs.declared.word.Word.TheVariants as words
use Rattle.demo_lines.specs.Known.{Reading}
use Rattle.demo_lines.specs.Words.{is_allowed}
use Rattle.demo_lines.specs.Recording.{lines_left, most_lines}

-- a line of the map is allowed at this stage
abbrev pub IsOfMap : Stage → MapLine → Type 0
IsOfMap Start line = is_arena line ≡ true
IsOfMap Map line = is_added line ≡ true
IsOfMap Playing line = ⊥
IsOfMap Ended line = ⊥
IsOfMap (Refused why) line = ⊥

-- a line may be taken at this stage: the numbers of one of the map are within their limits
abbrev pub IsAllowedAt : Stage → Line → Type 0
IsAllowedAt stage (OfMap line) = IsWithinLimits line × IsOfMap stage line
IsAllowedAt stage Frame = is_allowed stage words.Frame ≡ true
IsAllowedAt stage (From a) = is_allowed stage words.From ≡ true
IsAllowedAt stage End = is_allowed stage words.End ≡ true

-- the map may have no more blocks than a line can allow
abbrev pub HasFewBlocks : MapView → Type 0
HasFewBlocks map = map.most_blocks ≤ MOST_BLOCKS

-- what holds at each stage; after the first frame or the end the map may have been given out
abbrev pub HasMap : Stage → Reading → Type 0
HasMap Start r = (r.map ≡ None) × (r.frames ≡ 0) × (r.arrivals ≡ 0)
HasMap Map r =
    IsSome r.map × (r.frames ≡ 0) × (r.arrivals ≡ 0) × IfSome r.map HasFewBlocks
HasMap Playing r = IfSome r.map (λ map. is_ready map ≡ true)
HasMap Ended r = ⊤
HasMap (Refused why) r = ⊤

-- what holds of each reading of a recording
pub record IsReading (r : Reading) : Type 0 where
  pub map : HasMap r.stage r
  pub limit : r.limit ≤ MOST_FRAMES
  pub frames : r.frames ≤ r.limit
  pub arrivals : r.arrivals ≤ MOST_ARRIVALS
  pub lines : r.lines + lines_left r ≤ most_lines
