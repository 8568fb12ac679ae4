use Rattle.std.proofs.Common.{◌+ℤ◌, refl, arith, rules}
use Rattle.std.specs.Prelude.{FitsSigned}
use Rattle.std.specs.Int.{w32}
use Rattle.std.proofs.lemmas.Int.{to_z-of_z}
use Rattle.arena_geo.proofs.Vectors.{same_parts}
use Rattle.speed_rules.specs.Measures.{scaled_part}
use Rattle.speed_rules.proofs.Shares.{scaled_le_by}
use Rattle.speed_rules.proofs.Typed.{sum_is, fits_sum}
use Rattle.speed_rules.proofs.acceleration.push.Goals as goal

pub overflow_add-result-2 : goal.overflow_add-result-2
overflow_add-result-2 c =
    let gain_fits : FitsSigned w32 c.args.gain = c.ranges.gain in
    let bound = simp to_z-of_z at c.scale-2.ensures.bound in
    let y_fits : FitsSigned w32 c.args.vel.y = search rules in
    let scale_fits : FitsSigned w32 c.scale-2.result = record { sfits = c.scale-2.type_inv } in
    rw (to_z-of_z w32 c.args.vel.y y_fits, to_z-of_z w32 c.scale-2.result scale_fits) (fits_sum c.args.vel.y c.scale-2.result c.requires.near.y (omega (arith, bound, c.requires.small)))

pub returns : goal.returns
returns c =
    let x_fits : FitsSigned w32 c.args.x = c.ranges.x in
    let y_fits : FitsSigned w32 c.args.y = c.ranges.y in
    let gain_fits : FitsSigned w32 c.args.gain = c.ranges.gain in
    let vel_x_fits : FitsSigned w32 c.args.vel.x = search rules in
    let vel_y_fits : FitsSigned w32 c.args.vel.y = search rules in
    let vel_z_fits : FitsSigned w32 c.args.vel.z = search rules in
    let x = simp to_z-of_z at c.scale.ensures.value in
    let y = simp to_z-of_z at c.scale-2.ensures.value in
    let x_sum : FitsSigned w32 (c.args.vel.x +ℤ scaled_part c.args.x c.args.gain c.args.len) = fits_sum c.args.vel.x (scaled_part c.args.x c.args.gain c.args.len) c.requires.near.x (omega (arith, c.requires.small, scaled_le_by c.args.x c.args.gain c.args.len c.requires.some c.requires.x_is_part)) in
    let y_sum : FitsSigned w32 (c.args.vel.y +ℤ scaled_part c.args.y c.args.gain c.args.len) = fits_sum c.args.vel.y (scaled_part c.args.y c.args.gain c.args.len) c.requires.near.y (omega (arith, c.requires.small, scaled_le_by c.args.y c.args.gain c.args.len c.requires.some c.requires.y_is_part)) in
    same_parts
    (sum_is w32 _ _ _ _ vel_x_fits (record { sfits = c.scale.type_inv }) x_sum refl x)
    (sum_is w32 _ _ _ _ vel_y_fits (record { sfits = c.scale-2.type_inv }) y_sum refl y)
    (to_z-of_z w32 c.args.vel.z vel_z_fits)
