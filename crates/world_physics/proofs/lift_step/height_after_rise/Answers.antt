use Rattle.std.proofs.Common.{rules, arith, ◌+ℤ◌, SFits, w32}
use Rattle.std.proofs.lemmas.Int.{ints, to_z-of_z}
use Rattle.world_physics.proofs.lift_step.height_after_rise.Goals as goal

pub returns : goal.returns
returns c =
    let sum : SFits w32 (c.args.height +ℤ c.args.lift.now.speed) = omega (arith, ints) in
    let rise : SFits w32 c.args.lift.now.rise = omega (arith, ints) in
    search (rules, to_z-of_z)
