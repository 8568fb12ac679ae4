use Rattle.std.proofs.Common.{arith}
use Rattle.arena_geo.proofs.HalfDigits.{root_is_above, root_is_below}
use Rattle.arena_geo.proofs.Squares.{IsRoot-next_square, same_root, root_is_greatest}
use Rattle.arena_geo.proofs.root.isqrt.Goals as goal

pub root_between-requires-clause-from : goal.root_between-requires-clause-from
root_between-requires-clause-from c =
    root_is_above _ _ c.ilog2-digits.ensures.bound c.ilog2-digits.ensures.power_le

pub root_between-requires-clause-to : goal.root_between-requires-clause-to
root_between-requires-clause-to c =
    root_is_below _ _ c.ilog2-digits.ensures.bound c.ilog2-digits.ensures.next_power_gt

pub returns-then-n-eq0-clause-value : goal.returns-then-n-eq0-clause-value
returns-then-n-eq0-clause-value c =
    same_root c.args.n 0 _ (IsRoot-next_square _ 0 (omega arith) (omega arith)) (root_is_greatest c.args.n)

pub returns-clause-value : goal.returns-clause-value
returns-clause-value c = same_root c.args.n _ _ c.root_between.ensures (root_is_greatest c.args.n)
