use Rattle.std.proofs.Common.{◌≡◌, slice_index_or, ap, ◌∙◌, arith}
use Rattle.std.proofs.lemmas.List.{get_or_default}
use Rattle.arena_geo.specs.Bounds.{Bounds}
use Rattle.arena_geo.proofs.Strips.{read_x, read_y}
use Rattle.box_strips.proofs.Touching.{one_more}
use Rattle.box_strips.proofs.box_strips.put_all.Goals as goal

pub loop-place-preserved : goal.loop-place-preserved
loop-place-preserved g c =
    let boxes = c.args.boxes.now in
    let one = c.index-boxes-place.result in
    let lo = c.lo-lo.ensures in
    let hi = c.hi-hi.ensures in
    let one_is : (d : Bounds) → one ≡ slice_index_or boxes c.loop-place.place d = λ d. c.index-boxes-place.is ∙ get_or_default boxes c.loop-place.place one d c.loop-place-test.true in
    record {
      x =
          λ k d below.
          one_more c.loop-place.x c.put.new.self (λ j. (slice_index_or boxes j d).lo.x) (λ j. (slice_index_or boxes j d).hi.x) c.loop-place.place _ _ c.put.ensures.kept
          (λ j less. c.loop-place.invariant.x j d less) c.put.ensures.put
          (read_x c.lo-lo.result one.lo lo.value lo.is_box.in_range.lo ∙ ap (λ (b : Bounds). b.lo.x) (one_is d))
          (read_x c.hi-hi.result one.hi hi.value hi.is_box.in_range.hi ∙ ap (λ (b : Bounds). b.hi.x) (one_is d))
          k below;
      y =
          λ k d below.
          one_more c.loop-place.y c.put-in-loop-place.new.self (λ j. (slice_index_or boxes j d).lo.y) (λ j. (slice_index_or boxes j d).hi.y) c.loop-place.place _ _ c.put-in-loop-place.ensures.kept
          (λ j less. c.loop-place.invariant.y j d less) c.put-in-loop-place.ensures.put
          (read_y c.lo-lo.result one.lo lo.value lo.is_box.in_range.lo ∙ ap (λ (b : Bounds). b.lo.y) (one_is d))
          (read_y c.hi-hi.result one.hi hi.value hi.is_box.in_range.hi ∙ ap (λ (b : Bounds). b.hi.y) (one_is d))
          k below;
      x_words = c.put.ensures.kept.words ∙ c.loop-place.invariant.x_words;
      y_words = c.put-in-loop-place.ensures.kept.words ∙ c.loop-place.invariant.y_words;
    }

pub returns-clause-index : goal.returns-clause-index
returns-clause-index g c = record {
  x = λ k d within. c.spread.ensures.interval k _ _ (c.loop-place.invariant.x k d (omega (arith, within, c.loop-place-test.false)));
  y = λ k d within. c.spread-2.ensures.interval k _ _ (c.loop-place.invariant.y k d (omega (arith, within, c.loop-place-test.false)));
}
