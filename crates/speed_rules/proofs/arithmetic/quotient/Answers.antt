use Rattle.speed_rules.proofs.Shares.{can_divide, quotient_is, quotient_le}
use Rattle.std.proofs.Common.{rules}
use Rattle.speed_rules.proofs.arithmetic.quotient.Goals as goal

pub nonzero_div-result : goal.nonzero_div-result
nonzero_div-result c =
    can_divide c.args.dividend _ c.args.divisor c.ranges.dividend c.requires (search rules) c.from.ensures

pub returns-clause-value : goal.returns-clause-value
returns-clause-value c =
    quotient_is c.args.dividend _ c.args.divisor c.ranges.dividend c.requires (search rules) c.from.ensures

pub returns-clause-bound : goal.returns-clause-bound
returns-clause-bound c =
    rw (quotient_is c.args.dividend _ c.args.divisor c.ranges.dividend c.requires (search rules) c.from.ensures) (quotient_le c.args.dividend c.args.divisor)
