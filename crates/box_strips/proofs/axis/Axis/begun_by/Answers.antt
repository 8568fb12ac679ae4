use Rattle.std.proofs.Common.{List, ℕ, length, sym, ap, ◌∙◌, subst, w32, to_z, of_z}
use Rattle.std.proofs.lemmas.Int.{to_z-of_z}
use Rattle.box_strips.specs.Places.{has_place}
use Rattle.box_strips.specs.Strips.{AxisView, strip_of, row_of, HasInterval}
use Rattle.box_strips.proofs.InRows.{row_within}
use Rattle.box_strips.proofs.Touching.{in_begun}
use Rattle.box_strips.proofs.axis.Axis.begun_by.Goals as goal

pub row_of-requires : goal.row_of-requires
row_of-requires g c = row_within g.row.S c.self.inside.words c.strip_of-strip.result _ c.strip_of-strip.ensures.strip (ap length c.deref.ensures.value ∙ c.self.invariant.2)

pub returns-clause-found : goal.returns-clause-found
returns-clause-found g c place lo hi has less =
    let inside = c.self.inside in
    let axis : AxisView = record { strips = g.row.S; from = inside.from; shift = inside.shift; words = inside.words; begun = inside.begun.items; ended = inside.ended.items } in
    ap (λ (r : List ℕ). has_place r place) c.row_of.ensures.value
    ∙ ap (λ (rows : List ℕ). has_place (row_of inside.words rows c.strip_of-strip.result) place) c.deref.ensures.value
    ∙ in_begun axis place c.strip_of-strip.result lo hi c.args.at (subst (λ (a : AxisView). HasInterval a place lo hi) (sym c.self.view_is) has) less
    (c.strip_of-strip.ensures.value ∙ ap (λ (a : AxisView). strip_of a (to_z w32 (of_z w32 c.args.at))) (sym c.self.view_is) ∙ ap (strip_of axis) (to_z-of_z w32 c.args.at c.ranges.at)) c.strip_of-strip.ensures.strip
