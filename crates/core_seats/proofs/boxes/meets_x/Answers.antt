use Rattle.std.proofs.Common.{refl, rules, FitsSigned, w32}
use Rattle.std.proofs.lemmas.Int.{to_z-of_z}
use Rattle.core_seats.proofs.boxes.meets_x.Goals as goal

pub returns : goal.returns
returns c =
    let origin : FitsSigned w32 c.args.r.now.origin.x = search rules in
    let min : FitsSigned w32 c.args.r.now.mins.x = search rules in
    let max : FitsSigned w32 c.args.r.now.maxs.x = search rules in
    let by : FitsSigned w32 c.args.by.x = search rules in
    let lo : FitsSigned w32 c.lo-lo.result.x = search rules in
    let hi : FitsSigned w32 c.hi-hi.result.x = search rules in
    rw (c.meets.ensures, to_z-of_z w32 _ origin, to_z-of_z w32 _ min, to_z-of_z w32 _ max, to_z-of_z w32 _ by, to_z-of_z w32 _ lo, to_z-of_z w32 _ hi, c.lo-lo.ensures.value, c.hi-hi.ensures.value) refl
