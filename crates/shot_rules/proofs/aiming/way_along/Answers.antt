use Rattle.std.proofs.Common.{◌≡◌, ◌∙◌}
use Rattle.speed_rules.specs.Wishes.{wish_length}
use Rattle.speed_rules.proofs.Typed.{wish_is}
use Rattle.shot_rules.proofs.Ways.{way_is_some}
use Rattle.shot_rules.proofs.aiming.way_along.Goals as goal

pub returns-clause-value : goal.returns-clause-value
returns-clause-value c =
    let x = wish_is c.from-x.result c.args.wish_x c.ranges.wish_x c.from-x.ensures in
    let y = wish_is c.from-y.result c.args.wish_y c.ranges.wish_y c.from-y.ensures in
    let length : c.length-len.result ≡ wish_length c.args.wish_x c.args.wish_y = rw (x, y) at c.length-len.ensures.value in
    let x_is = rw (x, length) at c.scale.ensures.value in
    let y_is = rw (y, length) at c.scale-2.ensures.value in
    way_is_some c.args.wish_x c.args.wish_y c.scale.result c.scale-2.result (λ none. c.if-len-eq0.false (length ∙ none)) x_is y_is c.scale.ensures.bound c.scale-2.ensures.bound
