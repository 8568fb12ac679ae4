use Rattle.std.proofs.Common.{◌≡◌, true, [], None, Result, Ok, IsSome, IfOk, ap, ◌∙◌, subst}
use Rattle.packet_read.specs.declared.arrival.Arrival.{Arrival}
use Rattle.arena_map.specs.declared.map_line.MapLine.{MapLine}
use Rattle.arena_map.specs.MapLines.{is_arena, is_added}
use Rattle.demo_lines.specs.declared.line.Line.TheVariants.{OfMap}
use Rattle.demo_lines.specs.declared.line.LineKind.{LineKind}
use Rattle.demo_lines.specs.declared.line.LineKind.TheVariants as kinds
use Rattle.demo_lines.specs.declared.line_fault.LineFault.{LineFault}
use Rattle.demo_lines.specs.declared.stage.Stage.{Stage}
use Rattle.demo_lines.specs.declared.stage.Stage.TheVariants.{Start, Map, Playing, Ended, Refused}
use Rattle.demo_lines.specs.Kinds.{said_with}
use Rattle.demo_lines.specs.Known.{Reading}
use Rattle.demo_lines.specs.Readings.{HasMap, IsOfMap, IsAllowedAt}
use Rattle.demo_lines.proofs.reading.Reading.go_on.Goals as goal

-- a line of the map has no packet, so what holds with each packet holds with this one
some : Arrival
some = record { port = 0; bytes = [] }

-- what is asked of a line of the map
placed_line : (stage : Stage) (said : Result LineKind LineFault) (kind : LineKind) (line : MapLine) → said ≡ Ok kind → kind ≡ kinds.OfMap line
    → ((a : Arrival) → IfOk (said_with a said) (IsAllowedAt stage)) → IsAllowedAt stage (OfMap line)
placed_line stage said kind line is line_is placed =
    subst (λ s. IfOk (said_with some s) (IsAllowedAt stage)) (is ∙ ap Ok line_is) (placed some)

-- the first line of the map begins it, and each later one is added
begins : (stage : Stage) (r : Reading) (line : MapLine) → HasMap stage r → IsOfMap stage line → r.map ≡ None → is_arena line ≡ true
begins Start r line has is none = is
begins Map r line has is none = let map = has.0 in cc
begins Playing r line has is none = absurd is
begins Ended r line has is none = absurd is
begins (Refused why) r line has is none = absurd is

follows : (stage : Stage) (r : Reading) (line : MapLine) → HasMap stage r → IsOfMap stage line → IsSome r.map → is_added line ≡ true
follows Start r line has is map = let none = has.0 in cc
follows Map r line has is map = is
follows Playing r line has is map = absurd is
follows Ended r line has is map = absurd is
follows (Refused why) r line has is map = absurd is

pub take_map_line-requires-clause-limits : goal.take_map_line-requires-clause-limits
take_map_line-requires-clause-limits c =
    let is : c.args.line.now ≡ Ok c.in-Ok-OfMap.field-0 = c.in-Ok-OfMap.is in
    let line_is : c.in-Ok-OfMap.field-0 ≡ kinds.OfMap c.in-Ok-OfMap.line = rw c.in-Ok-OfMap.is at c.in-Ok-OfMap.field-0-is in
    let placed = placed_line c.args.self.now.stage c.args.line.now c.in-Ok-OfMap.field-0 c.in-Ok-OfMap.line is line_is c.requires.placed in
    placed.0

pub take_map_line-requires-clause-first : goal.take_map_line-requires-clause-first
take_map_line-requires-clause-first c =
    let is : c.args.line.now ≡ Ok c.in-Ok-OfMap.field-0 = c.in-Ok-OfMap.is in
    let line_is : c.in-Ok-OfMap.field-0 ≡ kinds.OfMap c.in-Ok-OfMap.line = rw c.in-Ok-OfMap.is at c.in-Ok-OfMap.field-0-is in
    let placed = placed_line c.args.self.now.stage c.args.line.now c.in-Ok-OfMap.field-0 c.in-Ok-OfMap.line is line_is c.requires.placed in
    begins c.args.self.now.stage c.args.self.now c.in-Ok-OfMap.line c.requires.reading.map placed.1

pub take_map_line-requires-clause-later : goal.take_map_line-requires-clause-later
take_map_line-requires-clause-later c =
    let is : c.args.line.now ≡ Ok c.in-Ok-OfMap.field-0 = c.in-Ok-OfMap.is in
    let line_is : c.in-Ok-OfMap.field-0 ≡ kinds.OfMap c.in-Ok-OfMap.line = rw c.in-Ok-OfMap.is at c.in-Ok-OfMap.field-0-is in
    let placed = placed_line c.args.self.now.stage c.args.line.now c.in-Ok-OfMap.field-0 c.in-Ok-OfMap.line is line_is c.requires.placed in
    follows c.args.self.now.stage c.args.self.now c.in-Ok-OfMap.line c.requires.reading.map placed.1
