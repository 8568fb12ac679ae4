use Rattle.world_tree.proofs.walk.is_blocked_by_solids.Goals as goal

pub is_in_the_way-requires : goal.is_in_the_way-requires
is_in_the_way-requires c = λ r e. (c.requires c.loop-place.place-index r e).is_record
