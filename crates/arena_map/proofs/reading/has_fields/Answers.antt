use Rattle.std.proofs.Common.{◌∙◌}
use Rattle.arena_map.proofs.FieldLists.{none-left}
use Rattle.arena_map.proofs.reading.has_fields.Goals as goal

pub returns-in_default : goal.returns-in_default
returns-in_default c =
    none-left c.args.fields.now c.loop-field.field-index c.loop-field.rest.now c.loop-field-test.true c.in_default.ensures ∙ c.loop-field.invariant
