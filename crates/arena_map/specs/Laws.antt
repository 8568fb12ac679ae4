-- What holds of all maps and their lines.
use Rattle.std.specs.Prelude.{◌≡◌, ◌↔◌, ℕ, ◌==◌, true, List, Option, Some, None, is_some, Ok, slice_index_or}
use Rattle.std.specs.List.{find}
use Rattle.arena_geo.specs.declared.vec3.Vec3.{Vec3}
use Rattle.arena_geo.specs.Vectors.{IsNear}
use Rattle.arena_geo.specs.Boxes.{contains}
use Rattle.box_trace.specs.Walls.{HaveWalls}
use Rattle.entity_recs.specs.declared.kind.Kind.{Kind}
use Rattle.entity_recs.specs.declared.rec.Rec.{Rec}
use Rattle.entity_recs.specs.Records.{IsShapeOf}
use Rattle.entity_recs.specs.Bodies.{body_of}
use Rattle.entity_recs.specs.Kinds.{is_item}
use Rattle.arena_map.specs.declared.lift.Lift.{Lift}
use Rattle.arena_map.specs.declared.limits.TheConstants.{MOST_BLOCKS, MOST_SPAWNS, MOST_ITEMS, MOST_BOXES, MOST_THINGS}
use Rattle.arena_map.specs.declared.limits.TheConstants.{DEFAULT_BLOCKS, DEFAULT_DEPTH}
use Rattle.arena_map.specs.declared.map_fault.MapFault.{MapFault}
use Rattle.arena_map.specs.declared.map_line.MapLine.{MapLine}
use Rattle.arena_map.specs.declared.map_word.MapField.{MapField}
use Rattle.arena_map.specs.MapLines.{IsWithinLimits, is_teleporter, is_lift}
use Rattle.arena_map.specs.Reading.{has_fields, map_line_of}
use Rattle.arena_map.specs.TextFaults.{IsOfFields}
use Rattle.arena_map.specs.Spelling.{map_line_text}
use Rattle.arena_map.specs.Maps.{MapView, IsMap, solids_of, entities_of, dest_of, delay_of, lift_of}
use Rattle.arena_map.specs.Rules.{bare_map, broken_by_arena, broken_rule, with_line}
use Rattle.arena_map.specs.KeptRules.{IsFirstBroken}
use Rattle.arena_map.specs.Validity.{IsSameLift, IsOpeningWorld, IsValidWorld}

-- an arena that breaks no rule begins a map that keeps them, and a line that breaks none leaves such a map; and an arena
-- that begins a map which keeps the rules breaks none, nor does a line that leaves such a map
pub record LinesKeepTheRules : Type 0 where
  pub begun : (lo hi : Vec3) → IsNear 1048576 lo → IsNear 1048576 hi → broken_by_arena lo hi ≡ None
      → IsMap (bare_map lo hi)
  pub added : (map : MapView) (line : MapLine) → IsMap map → IsWithinLimits line → broken_rule map line ≡ None
      → IsMap (with_line map line)
  pub begun_only : (lo hi : Vec3) → IsMap (bare_map lo hi) → broken_by_arena lo hi ≡ None
  pub added_only : (map : MapView) (line : MapLine) → IsMap (with_line map line) → broken_rule map line ≡ None

-- the rule that is reported of an arena, or of a line that is added to a map which keeps the rules, is exactly the first
-- one that the map with it breaks
pub record BrokenRulesAreTheFirst : Type 0 where
  pub begun : (lo hi : Vec3) (rule : MapFault) → (broken_by_arena lo hi ≡ Some rule)
      ↔ IsFirstBroken (bare_map lo hi) rule
  pub added : (map : MapView) (line : MapLine) (rule : MapFault) → IsMap map → (broken_rule map line ≡ Some rule)
      ↔ IsFirstBroken (with_line map line) rule

-- the solids of a map block what its walls block
abbrev pub SolidsHaveWalls : Type 0
SolidsHaveWalls = (map : MapView) → HaveWalls map.bounds (solids_of map)

-- a text is read as a line exactly where it is the text of that line, and its numbers are within their limits
abbrev pub MapLinesReadBack : Type 0
MapLinesReadBack =
    (text : List ℕ) (line : MapLine) → (map_line_of text ≡ Ok line)
    ↔ ((text ≡ map_line_text line) × IsWithinLimits line)

-- a text has fields of some forms exactly where it is such fields, each after a space, and nothing more
abbrev pub FieldsAreSpaced : Type 0
FieldsAreSpaced =
    (fields : List MapField) (rest : List ℕ) → (has_fields fields rest ≡ true) ↔ IsOfFields fields rest

-- an id has a destination exactly where this kind is a teleporter's, a delay where it is an item's, and the data of a
-- lift where it is a lift's
abbrev pub HasDataOf : MapView → ℕ → Kind → Type 0
HasDataOf map id kind =
    (is_some (dest_of map id) ≡ is_teleporter kind) × (is_some (delay_of map id) ≡ is_item kind)
    × (is_some (lift_of map id) ≡ is_lift kind)

-- the data of an id are those of the thing that has it; where there is none, there are no data
abbrev pub HasData : MapView → ℕ → Option Rec → Type 0
HasData map id None = (dest_of map id ≡ None) × (delay_of map id ≡ None) × (lift_of map id ≡ None)
HasData map id (Some thing) = HasDataOf map id thing.kind

-- so it is with each id, and the thing that has it
abbrev pub DataFollowKinds : Type 0
DataFollowKinds =
    (map : MapView) (id : ℕ) → IsMap map → HasData map id (find (λ thing. thing.id == id) (entities_of map))

-- so it is with each live record of a valid world
abbrev pub LiveRecordsHaveData : Type 0
LiveRecordsHaveData =
    (map : MapView) (records : List (Option Rec)) (id : ℕ) (r : Rec) → IsMap map → IsValidWorld map records
    → slice_index_or records id None ≡ Some r → HasDataOf map id r.kind

-- the opening world of a map is valid
abbrev pub OpeningWorldIsValid : Type 0
OpeningWorldIsValid =
    (map : MapView) (records : List (Option Rec)) → IsMap map → IsOpeningWorld map records → IsValidWorld map records

-- a lift's record between its lowest place and its highest has its shape there, and its body is inside the arena
pub record IsLiftInside (map : MapView) (r : Rec) : Type 0 where
  pub origin : IsNear 1048576 r.origin
  pub shape : IsShapeOf r.kind r.origin r.mins r.maxs
  pub inside : contains map.bounds (body_of r) ≡ true

-- so it is with each lift of a map
abbrev pub LiftsStayInside : Type 0
LiftsStayInside =
    (map : MapView) (id : ℕ) (lift : Lift) (thing r : Rec) → IsMap map → lift_of map id ≡ Some lift
    → find (λ thing. thing.id == id) (entities_of map) ≡ Some thing → IsSameLift lift thing r → IsLiftInside map r

-- how much a map may have, how many blocks where no line says that, and how deep its tree is where none says so, in numbers
pub record LimitsAreKnown : Type 0 where
  pub blocks : MOST_BLOCKS ≡ 4096
  pub default_blocks : DEFAULT_BLOCKS ≡ 1024
  pub spawns : MOST_SPAWNS ≡ 64
  pub items : MOST_ITEMS ≡ 400
  pub boxes : MOST_BOXES ≡ 16
  pub things : MOST_THINGS ≡ 448
  pub depth : DEFAULT_DEPTH ≡ 4
