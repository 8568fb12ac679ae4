use Rattle.arena_geo.proofs.Containment.{contained_is_touched}
use Rattle.arena_geo.proofs.laws.contained_is_touched.Goals as goal

pub returns : goal.returns
returns c = contained_is_touched
