use Rattle.arena_map.proofs.FieldForms.{fields_are_spaced}
use Rattle.arena_map.proofs.laws.fields_are_spaced.Goals as goal

pub returns : goal.returns
returns c = fields_are_spaced
