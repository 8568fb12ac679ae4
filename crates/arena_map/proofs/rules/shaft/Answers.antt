use Rattle.std.proofs.Common.{◌≡◌, ap, ◌∙◌, w32}
use Rattle.std.proofs.lemmas.Int.{to_z-of_z}
use Rattle.arena_geo.specs.Vectors.{plus}
use Rattle.arena_map.specs.Positions.{upwards}
use Rattle.arena_map.proofs.Boxes.{shaft_is_box, rise_fits}
use Rattle.arena_map.proofs.rules.shaft.Goals as goal

pub add-requires : goal.add-requires
add-requires c =
    let up : c.upwards.result ≡ upwards c.args.rise = c.upwards.ensures ∙ ap upwards (to_z-of_z w32 c.args.rise c.ranges.rise) in
    rw up (rise_fits c.args.hi c.args.rise c.requires.hi c.requires.least c.requires.most)

pub from_corners-requires : goal.from_corners-requires
from_corners-requires c =
    let up : c.upwards.result ≡ upwards c.args.rise = c.upwards.ensures ∙ ap upwards (to_z-of_z w32 c.args.rise c.ranges.rise) in
    let is = shaft_is_box c.args.lo c.args.hi c.args.rise c.requires.lo c.requires.hi c.requires.thick c.requires.least c.requires.most in
    rw (c.add.ensures ∙ ap (plus c.args.hi) up) is
