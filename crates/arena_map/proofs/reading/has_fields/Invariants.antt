use Rattle.std.proofs.Common.{◌≡◌, drop}
use Rattle.arena_map.specs.Reading.{has_fields}
use Rattle.arena_map.proofs.reading.has_fields.Given as goal

-- the fields that are left are on the rest exactly where all are on the line
abbrev pub invariant-loop-field : goal.invariant-loop-field
invariant-loop-field l = has_fields (drop l.field-index l.fields) l.rest ≡ has_fields l.fields l.fn.rest
