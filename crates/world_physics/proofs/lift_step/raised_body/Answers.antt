use Rattle.std.proofs.Common.{ap, w32}
use Rattle.std.proofs.lemmas.Int.{to_z-of_z}
use Rattle.arena_map.specs.Positions.{upwards}
use Rattle.world_physics.proofs.Raising.{raised_in_range}
use Rattle.world_physics.proofs.lift_step.raised_body.Goals as goal

pub shifted-requires : goal.shifted-requires
shifted-requires c =
    raised_in_range c.args.r.now _ _ c.args.up c.requires.record c.requires.far c.body_box.ensures (ap upwards (to_z-of_z w32 c.args.up c.ranges.up))
