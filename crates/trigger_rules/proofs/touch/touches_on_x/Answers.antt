use Rattle.std.proofs.Common.{◌+ℤ◌, refl, rules, FitsSigned, w32, arith}
use Rattle.std.proofs.lemmas.Int.{to_z-of_z, ints}
use Rattle.entity_recs.proofs.Standing.{records_have_boxes}
use Rattle.trigger_rules.proofs.touch.touches_on_x.Goals as goal

pub overflow_add-result : goal.overflow_add-result
overflow_add-result c =
    let origin : FitsSigned w32 c.args.r.now.origin.x = search rules in
    let mins : FitsSigned w32 c.args.r.now.mins.x = search rules in
    let near = (records_have_boxes c.args.r.now c.requires).body.in_range.lo.x in
    let fits : FitsSigned w32 (c.args.r.now.origin.x +ℤ c.args.r.now.mins.x) = omega (arith, ints, near) in
    rw (to_z-of_z w32 _ origin, to_z-of_z w32 _ mins) fits

pub returns-then-low-r : goal.returns-then-low-r
returns-then-low-r c =
    let origin : FitsSigned w32 c.args.r.now.origin.x = search rules in
    let mins : FitsSigned w32 c.args.r.now.mins.x = search rules in
    let maxs : FitsSigned w32 c.args.r.now.maxs.x = search rules in
    let body = (records_have_boxes c.args.r.now c.requires).body.in_range in
    let from : FitsSigned w32 (c.args.r.now.origin.x +ℤ c.args.r.now.mins.x) = omega (arith, ints, body.lo.x) in
    let to : FitsSigned w32 (c.args.r.now.origin.x +ℤ c.args.r.now.maxs.x) = omega (arith, ints, body.hi.x) in
    let near = rw (to_z-of_z w32 _ origin, to_z-of_z w32 _ maxs, to_z-of_z w32 _ to, to_z-of_z w32 _ c.ranges.low) at (c.if-low-r.true) in
    rw (to_z-of_z w32 _ origin, to_z-of_z w32 _ mins, to_z-of_z w32 _ from, to_z-of_z w32 _ c.ranges.high, near) refl
