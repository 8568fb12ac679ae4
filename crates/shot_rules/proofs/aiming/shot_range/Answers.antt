use Rattle.std.proofs.Common.{refl}
use Rattle.shot_rules.proofs.Ways.{shot_ends_in_range}
use Rattle.shot_rules.proofs.aiming.shot_range.Goals as goal

pub shifted-requires : goal.shifted-requires
shifted-requires c = shot_ends_in_range c.args.origin c.in_ok-way.way c.shot_box-body.result c.requires (c.in_ok-way.ensures.near c.in_ok-way.way refl) c.shot_box-body.ensures
