use Rattle.std.proofs.Common.{refl, rules, FitsSigned, w32, w64}
use Rattle.std.proofs.lemmas.Int.{to_z-of_z}
use Rattle.core_seats.proofs.boxes.meets.Goals as goal

pub returns : goal.returns
returns c =
    let low : FitsSigned w64 c.low_end-low.result = search rules in
    let high : FitsSigned w64 c.high_end-high.result = search rules in
    rw (c.touches_on.ensures, to_z-of_z w64 c.low_end-low.result low, to_z-of_z w64 c.high_end-high.result high, c.low_end-low.ensures, c.high_end-high.ensures, to_z-of_z w32 c.args.origin c.ranges.origin, to_z-of_z w32 c.args.min c.ranges.min, to_z-of_z w32 c.args.max c.ranges.max, to_z-of_z w32 c.args.by c.ranges.by, to_z-of_z w32 c.args.lo c.ranges.lo, to_z-of_z w32 c.args.hi c.ranges.hi) refl
