use Rattle.std.specs.Prelude.{unsigned_abs, FitsSigned}
use Rattle.std.specs.Int.{w32}
use Rattle.std.proofs.lemmas.Int.{to_z-of_z}
use Rattle.speed_rules.proofs.Shares.{root_le_legs}
use Rattle.speed_rules.proofs.arithmetic.length.Goals as goal

pub returns-clause-bound : goal.returns-clause-bound
returns-clause-bound c =
    let x_fits : FitsSigned w32 c.args.x = c.ranges.x in
    let y_fits : FitsSigned w32 c.args.y = c.ranges.y in
    root_le_legs (unsigned_abs c.args.x) (unsigned_abs c.args.y) _ _ _ (simp to_z-of_z at c.square.ensures.value) (simp to_z-of_z at c.square-2.ensures.value) c.isqrt.ensures.root
