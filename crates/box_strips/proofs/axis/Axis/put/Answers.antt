use Rattle.std.proofs.Common.{ℕ, List, ◌-◌, length, refl, sym, ap, ◌∙◌, subst, arith, w32, to_z, of_z}
use Rattle.std.proofs.lemmas.Int.{to_z-of_z}
use Rattle.std.proofs.lemmas.List.{with_items_is}
use Rattle.std.specs.Vec.{with_items}
use Rattle.box_strips.specs.Places.{KeepsPlaces}
use Rattle.box_strips.specs.Strips.{AxisView, strip_of, IsInRow, KeepsAxis}
use Rattle.box_strips.proofs.InRows.{row_within}
use Rattle.box_strips.proofs.axis.Axis.put.Goals as goal

pub put_in-requires-clause-row : goal.put_in-requires-clause-row
put_in-requires-clause-row g c =
    row_within g.row.S c.self.inside.words c.strip_of-first.result _ c.strip_of-first.ensures.strip (ap length c.deref_mut.ensures.value ∙ c.self.invariant.2)

pub put_in-requires-2-clause-row : goal.put_in-requires-2-clause-row
put_in-requires-2-clause-row g c =
    row_within g.row.S c.self.inside.words (g.row.S - 1 - c.strip_of-last.result) _ (omega (arith, c.strip_of-last.ensures.strip)) (ap length c.deref_mut-2.ensures.value ∙ c.self.invariant.3)

pub returns-clause-put : goal.returns-clause-put
returns-clause-put g c =
    let inside = c.self.inside in
    let axis : AxisView = record { strips = g.row.S; from = inside.from; shift = inside.shift; words = inside.words; begun = inside.begun.items; ended = inside.ended.items } in
    let first = c.strip_of-first.ensures.value ∙ ap (λ (a : AxisView). strip_of a (to_z w32 (of_z w32 c.args.lo))) (sym c.self.view_is) ∙ ap (strip_of axis) (to_z-of_z w32 c.args.lo c.ranges.lo) in
    let last = c.strip_of-last.ensures.value ∙ ap (λ (a : AxisView). strip_of a (to_z w32 (of_z w32 c.args.hi))) (sym c.self.view_is) ∙ ap (strip_of axis) (to_z-of_z w32 c.args.hi c.ranges.hi) in
    let begun_is = with_items_is inside.begun c.put_in.new.rows (c.put_in.ensures.length ∙ ap length c.deref_mut.ensures.value ∙ sym inside.begun.ok.0) in
    let ended_is = with_items_is inside.ended c.put_in-2.new.rows (c.put_in-2.ensures.length ∙ ap length c.deref_mut-2.ensures.value ∙ sym inside.ended.ok.0) in
    record {
      begun =
          subst (λ (rows : List ℕ). IsInRow inside.words rows (strip_of axis c.args.lo) c.args.place) (sym begun_is)
          (subst (λ (row : ℕ). IsInRow inside.words c.put_in.new.rows row c.args.place) first c.put_in.ensures.put);
      ended =
          subst (λ (rows : List ℕ). IsInRow inside.words rows (g.row.S - 1 - strip_of axis c.args.hi) c.args.place) (sym ended_is)
          (subst (λ (row : ℕ). IsInRow inside.words c.put_in-2.new.rows (g.row.S - 1 - row) c.args.place) last c.put_in-2.ensures.put);
    }

pub returns-clause-kept : goal.returns-clause-kept
returns-clause-kept g c =
    let inside = c.self.inside in
    let begun_is = with_items_is inside.begun c.put_in.new.rows (c.put_in.ensures.length ∙ ap length c.deref_mut.ensures.value ∙ sym inside.begun.ok.0) in
    let ended_is = with_items_is inside.ended c.put_in-2.new.rows (c.put_in-2.ensures.length ∙ ap length c.deref_mut-2.ensures.value ∙ sym inside.ended.ok.0) in
    let new : AxisView = record {
      strips = g.row.S;
      from = inside.from;
      shift = inside.shift;
      words = inside.words;
      begun = (with_items inside.begun c.put_in.new.rows).items;
      ended = (with_items inside.ended c.put_in-2.new.rows).items;
    } in
    subst (λ (a : AxisView). KeepsAxis a new) c.self.view_is
    (record {
      strips = refl;
      from = refl;
      shift = refl;
      words = refl;
      begun =
          subst (KeepsPlaces inside.begun.items) (sym begun_is)
          (subst (λ (rows : List ℕ). KeepsPlaces rows c.put_in.new.rows) c.deref_mut.ensures.value c.put_in.ensures.kept);
      ended =
          subst (KeepsPlaces inside.ended.items) (sym ended_is)
          (subst (λ (rows : List ℕ). KeepsPlaces rows c.put_in-2.new.rows) c.deref_mut-2.ensures.value c.put_in-2.ensures.kept);
    })
