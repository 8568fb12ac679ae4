use Rattle.std.proofs.Common.{sym, subst}
use Rattle.arena_geo.specs.declared.vec3.Vec3.{Vec3}
use Rattle.arena_geo.specs.Vectors.{Fits, minus}
use Rattle.slide_move.proofs.Ways.{Fits-left}
use Rattle.slide_move.proofs.leg.Leg.after.Goals as goal

pub sub-requires : goal.sub-requires
sub-requires c =
    let P : Vec3 → Type 0 = λ shift. Fits (minus c.args.way shift) in
    subst P (sym c.shift_at-shift.ensures) (Fits-left c.args.way c.args.hit.steps c.requires.near c.requires.within)
