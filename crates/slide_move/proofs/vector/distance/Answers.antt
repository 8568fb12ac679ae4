use Rattle.std.proofs.Common.{◌∙◌}
use Rattle.std.specs.Int.{w32}
use Rattle.std.proofs.lemmas.Int.{to_z-of_z}
use Rattle.slide_move.proofs.Reaches.{distance_near, distance_wide, distance_fits}
use Rattle.slide_move.proofs.vector.distance.Goals as goal

pub overflow_cast-result : goal.overflow_cast-result
overflow_cast-result c =
    let r = c.requires in
    rw (distance_wide c.args.speed _ _ c.args.ms r.near r.most (c.from.ensures ∙ to_z-of_z w32 c.args.speed c.ranges.speed) c.from-2.ensures) (distance_fits c.args.speed c.args.ms r.near r.most)

pub returns-clause-value : goal.returns-clause-value
returns-clause-value c =
    let r = c.requires in
    rw (distance_wide c.args.speed _ _ c.args.ms r.near r.most (c.from.ensures ∙ to_z-of_z w32 c.args.speed c.ranges.speed) c.from-2.ensures) (to_z-of_z w32 _ (distance_fits c.args.speed c.args.ms r.near r.most))

pub returns-clause-near : goal.returns-clause-near
returns-clause-near c =
    let r = c.requires in
    rw (distance_wide c.args.speed _ _ c.args.ms r.near r.most (c.from.ensures ∙ to_z-of_z w32 c.args.speed c.ranges.speed) c.from-2.ensures, to_z-of_z w32 _ (distance_fits c.args.speed c.args.ms r.near r.most)) (distance_near c.args.speed c.args.ms r.near r.most)
