use Rattle.std.proofs.Common.{ℕ, List, ◌-◌, length, sym, ap, ◌∙◌, subst}
use Rattle.std.proofs.lemmas.List.{with_items_is}
use Rattle.box_strips.specs.Strips.{AxisView, strip_of, IsInRow, IsFromRow, HasEnds}
use Rattle.box_strips.proofs.axis.Axis.spread.Goals as goal

pub returns-clause-interval : goal.returns-clause-interval
returns-clause-interval g c place lo hi has =
    let inside = c.self.inside in
    let axis : AxisView = record { strips = g.row.S; from = inside.from; shift = inside.shift; words = inside.words; begun = inside.begun.items; ended = inside.ended.items } in
    let ends = subst (λ (a : AxisView). HasEnds a place lo hi) (sym c.self.view_is) has in
    let begun_is = with_items_is inside.begun c.spread.new.rows (c.spread.ensures.length ∙ ap length c.deref_mut.ensures.value ∙ sym inside.begun.ok.0) in
    let ended_is = with_items_is inside.ended c.spread-2.new.rows (c.spread-2.ensures.length ∙ ap length c.deref_mut-2.ensures.value ∙ sym inside.ended.ok.0) in
    record {
      begun =
          subst (λ (rows : List ℕ). IsFromRow g.row.S inside.words rows (strip_of axis lo) place) (sym begun_is)
          (c.spread.ensures.spread g.row.S (ap length c.deref_mut.ensures.value ∙ c.self.invariant.2) (strip_of axis lo) place
          (subst (λ (rows : List ℕ). IsInRow inside.words rows (strip_of axis lo) place) (sym c.deref_mut.ensures.value) ends.begun));
      ended =
          subst (λ (rows : List ℕ). IsFromRow g.row.S inside.words rows (g.row.S - 1 - strip_of axis hi) place) (sym ended_is)
          (c.spread-2.ensures.spread g.row.S (ap length c.deref_mut-2.ensures.value ∙ c.self.invariant.3) (g.row.S - 1 - strip_of axis hi) place
          (subst (λ (rows : List ℕ). IsInRow inside.words rows (g.row.S - 1 - strip_of axis hi) place) (sym c.deref_mut-2.ensures.value) ends.ended));
    }
