use Rattle.std.proofs.Common.{◌∙◌}
use Rattle.std.specs.Int.{w32}
use Rattle.std.proofs.lemmas.Int.{to_z-of_z}
use Rattle.box_trace.proofs.Parts.{part_at-wide, FitsSigned-part_at}
use Rattle.box_trace.proofs.way.part_at.Goals as goal

pub overflow_cast-result : goal.overflow_cast-result
overflow_cast-result c =
    let r = c.requires in
    rw (part_at-wide c.args.part _ _ _ c.args.k c.args.count r.part r.within r.few (c.from.ensures ∙ to_z-of_z w32 c.args.part c.ranges.part) c.from-2.ensures c.from-3.ensures) (FitsSigned-part_at c.args.count c.args.k c.args.part r.part r.within r.few)

pub returns : goal.returns
returns c =
    let r = c.requires in
    rw (part_at-wide c.args.part _ _ _ c.args.k c.args.count r.part r.within r.few (c.from.ensures ∙ to_z-of_z w32 c.args.part c.ranges.part) c.from-2.ensures c.from-3.ensures) (to_z-of_z w32 _ (FitsSigned-part_at c.args.count c.args.k c.args.part r.part r.within r.few))
