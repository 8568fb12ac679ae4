use Rattle.std.proofs.Common.{◌≡◌, ◌≤◌, ◌<ℤ◌, ◌∙◌, pos, arith}
use Rattle.std.specs.Prelude.{FitsSigned}
use Rattle.std.specs.Int.{w32, w64, int_min, cast_signed, cast_unsigned}
use Rattle.std.proofs.lemmas.Int.{to_z-of_z}
use Rattle.speed_rules.specs.Rules.{missing_of}
use Rattle.speed_rules.proofs.Pushing.{gain_le, something_missing}
use Rattle.speed_rules.proofs.Typed.{gain_is, gain_is_positive, positive_from_test}
use Rattle.speed_rules.proofs.acceleration.accelerate_toward.Goals as goal

some : (c : goal.After-min-gain) → pos 0 <ℤ c.missing_speed-missing.result
some c = positive_from_test c.missing_speed-missing.result (record { sfits = c.missing_speed-missing.type_inv }) c.if-missing-le0.false

small : (c : goal.After-min-gain) → c.greatest_gain.result ≤ 40960
small c = omega (arith, c.greatest_gain.ensures.bound, c.requires.brief)

gain : (c : goal.After-min-gain) → cast_signed w32 (cast_unsigned w32 (cast_signed w64 (cast_unsigned w64 c.min-gain.result))) ≡ int_min (pos c.greatest_gain.result) c.missing_speed-missing.result
gain c = gain_is _ _ _ c.greatest_gain.result (small c) c.from.ensures (record { sfits = c.missing_speed-missing.type_inv }) (record { sfits = c.min-gain.type_inv }) (some c) c.min-gain.ensures.value

pub push-requires-clause-positive : goal.push-requires-clause-positive
push-requires-clause-positive c = rw (gain c) (gain_is_positive c.greatest_gain.result c.missing_speed-missing.result (some c))

pub push-requires-clause-small : goal.push-requires-clause-small
push-requires-clause-small c = rw (gain c) (omega (arith, gain_le c.greatest_gain.result c.missing_speed-missing.result (some c), small c))

pub returns : goal.returns
returns c =
    let x_fits : FitsSigned w32 c.args.x = c.ranges.x in
    let y_fits : FitsSigned w32 c.args.y = c.ranges.y in
    let missing : c.missing_speed-missing.result ≡ missing_of c.args.vel c.args.x c.args.y c.args.len c.args.on_ground = simp to_z-of_z at c.missing_speed-missing.ensures in
    let positive : pos 0 <ℤ c.missing_speed-missing.result = positive_from_test c.missing_speed-missing.result (record { sfits = c.missing_speed-missing.type_inv }) c.if-missing-le0.false in
    let brief : c.greatest_gain.result ≤ 40960 = omega (arith, c.greatest_gain.ensures.bound, c.requires.brief) in
    let gain = gain_is _ _ _ c.greatest_gain.result brief c.from.ensures (record { sfits = c.missing_speed-missing.type_inv }) (record { sfits = c.min-gain.type_inv }) positive c.min-gain.ensures.value in
    let push = rw (to_z-of_z w32 c.args.x x_fits, to_z-of_z w32 c.args.y y_fits, gain, c.greatest_gain.ensures.value, missing) at c.push.ensures in
    push ∙ something_missing c.args.len c.args.vel c.args.x c.args.y c.args.ms c.args.on_ground c.requires.some (rw missing at positive)
