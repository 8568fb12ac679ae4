use Rattle.std.proofs.Common.{◌≡◌, ◌∙◌, ap, pos, min, refl}
use Rattle.std.specs.Prelude.{FitsSigned}
use Rattle.std.specs.Int.{w32, w64}
use Rattle.std.proofs.lemmas.Int.{to_z-of_z}
use Rattle.speed_rules.specs.Measures.{part_along}
use Rattle.speed_rules.specs.Rules.{cap_of}
use Rattle.speed_rules.proofs.Typed.{difference_is, fits_difference}
use Rattle.speed_rules.proofs.acceleration.missing_speed.Goals as goal

pub returns : goal.returns
returns c =
    let x_fits : FitsSigned w32 c.args.x = c.ranges.x in
    let y_fits : FitsSigned w32 c.args.y = c.ranges.y in
    let along : c.along.result ≡ part_along c.args.vel c.args.x c.args.y c.args.len = simp to_z-of_z at c.along.ensures.value in
    let cap : c.cap.result ≡ cap_of c.args.on_ground (min c.args.len 81920) = c.cap.ensures.value ∙ ap (cap_of c.args.on_ground) c.min.ensures in
    let fits = fits_difference c.cap.result c.along.result c.cap.type_inv c.along.ensures.bound in
    difference_is w64 _ _ (pos c.cap.result) c.along.result (record { sfits = c.from.type_inv }) (record { sfits = c.along.type_inv }) fits c.from.ensures refl
    ∙ (rw (cap, along))
