use Rattle.entity_recs.proofs.Standing.{records_have_boxes}
use Rattle.entity_recs.proofs.bodies.abs_box.Goals as goal

pub grown-requires-clause-in_range : goal.grown-requires-clause-in_range
grown-requires-clause-in_range c =
    rw (c.body_box.ensures, c.growth.ensures) (records_have_boxes c.args.r.now c.requires).abs.in_range
