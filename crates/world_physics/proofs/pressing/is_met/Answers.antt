use Rattle.world_physics.proofs.pressing.is_met.Goals as goal

pub leaves-requires-clause-record : goal.leaves-requires-clause-record
leaves-requires-clause-record c = c.requires.record c.in-Some.r c.in-Some.is
