use Rattle.std.proofs.Common.{◌≡◌, ◌∙◌, ap, pos, ◌<◌, arith, rules}
use Rattle.std.specs.Prelude.{FitsSigned}
use Rattle.std.specs.Int.{w32, cast_signed}
use Rattle.std.proofs.lemmas.Int.{to_z-of_z, to_z_pos}
use Rattle.speed_rules.specs.Measures.{speed_of, scaled_part}
use Rattle.speed_rules.specs.Rules.{speed_after_friction}
use Rattle.speed_rules.proofs.Slowing.{friction_shortens, friction_is}
use Rattle.speed_rules.proofs.rules.friction.Goals as goal

pub returns-clause-value : goal.returns-clause-value
returns-clause-value c =
    let x_fits : FitsSigned w32 c.args.vel.x = search rules in
    let y_fits : FitsSigned w32 c.args.vel.y = search rules in
    let z_fits : FitsSigned w32 c.args.vel.z = search rules in
    let speed : c.length-speed.result ≡ speed_of c.args.vel = simp to_z-of_z at c.length-speed.ensures.value in
    let small : c.slow-left.result < 2147483648 = search rules in
    let left : cast_signed w32 c.slow-left.result ≡ pos (speed_after_friction c.args.ms c.length-speed.result) = to_z_pos w32 _ small ∙ ap pos c.slow-left.ensures.value in
    let x = to_z-of_z w32 c.scale.result (record { sfits = c.scale.type_inv }) ∙ (simp to_z-of_z at c.scale.ensures.value) ∙ ap (λ z. scaled_part c.args.vel.x z c.length-speed.result) left in
    let y = to_z-of_z w32 c.scale-2.result (record { sfits = c.scale-2.type_inv }) ∙ (simp to_z-of_z at c.scale-2.ensures.value) ∙ ap (λ z. scaled_part c.args.vel.y z c.length-speed.result) left in
    friction_is c.length-speed.result c.args.vel _ c.args.ms speed (omega arith) x y (to_z-of_z w32 c.args.vel.z z_fits)

pub returns-clause-shortens : goal.returns-clause-shortens
returns-clause-shortens c = rw (returns-clause-value c) (friction_shortens c.args.vel c.args.ms)
