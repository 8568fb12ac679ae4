use Rattle.std.proofs.Common.{pos, ◌+ℤ◌, ◌-ℤ◌, sym, ap, ◌∙◌, rules, FitsSigned, w32, arith}
use Rattle.std.proofs.lemmas.Int.{to_z-of_z, ints}
use Rattle.arena_geo.specs.declared.vec3.Vec3.{Vec3}
use Rattle.trigger_rules.proofs.Wide.{far_is_untouched}
use Rattle.trigger_rules.proofs.touch.is_near_and_touched.Goals as goal

pub returns-else-touches_on_x : goal.returns-else-touches_on_x
returns-else-touches_on_x c =
    let box = c.lo-low.ensures.is_box.in_range in
    let lo : FitsSigned w32 c.lo-low.result.x = search rules in
    let hi : FitsSigned w32 c.hi-high.result.x = search rules in
    let low : FitsSigned w32 (c.lo-low.result.x -ℤ pos 3840) = rw c.lo-low.ensures.value (omega (arith, ints, box.lo.x)) in
    let high : FitsSigned w32 (c.hi-high.result.x +ℤ pos 3840) = rw c.hi-high.ensures.value (omega (arith, ints, box.hi.x)) in
    let test = rw (to_z-of_z w32 _ lo, to_z-of_z w32 _ hi, to_z-of_z w32 _ low, to_z-of_z w32 _ high) at (c.touches_on_x.ensures) in
    let low_is = ap (λ (v : Vec3). v.x -ℤ pos 3840) c.lo-low.ensures.value in
    let high_is = ap (λ (v : Vec3). v.x +ℤ pos 3840) c.hi-high.ensures.value in
    c.if-touches_on_x.false ∙ sym (far_is_untouched c.args.abs.now _ _ c.args.r.now low_is high_is (sym test ∙ c.if-touches_on_x.false))
