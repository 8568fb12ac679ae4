use Rattle.entity_recs.proofs.Standing.{abs_contains_body}
use Rattle.entity_recs.proofs.laws.abs_contains_body.Goals as goal

pub returns : goal.returns
returns c = abs_contains_body
