use Rattle.std.proofs.Common.{◌≡◌}
use Rattle.speed_rules.specs.Rules.{accelerated_velocity}
use Rattle.speed_rules.proofs.Pushing.{acceleration_is_bounded}
use Rattle.speed_rules.proofs.Typed.{wish_is}
use Rattle.speed_rules.proofs.acceleration.accelerate.Goals as goal

-- what the calls gave
value : (c : goal.After-accelerate_toward) → c.accelerate_toward.result ≡ accelerated_velocity c.args.vel c.args.wish_x c.args.wish_y c.args.ms c.args.on_ground
value c =
    let x = wish_is c.from-x.result c.args.wish_x c.ranges.wish_x c.from-x.ensures in
    let y = wish_is c.from-y.result c.args.wish_y c.ranges.wish_y c.from-y.ensures in
    let length = rw (x, y) at c.length-len.ensures.value in
    rw (x, y, length) at c.accelerate_toward.ensures

pub returns-clause-value : goal.returns-clause-value
returns-clause-value c = value c

pub returns-clause-adds : goal.returns-clause-adds
returns-clause-adds c = rw (value c) (acceleration_is_bounded c.args.vel c.args.wish_x c.args.wish_y c.args.ms c.args.on_ground)
