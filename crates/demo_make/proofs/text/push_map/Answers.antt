use Rattle.std.proofs.Common.{◌∷◌, [], ◌++◌, length, ap, ◌∙◌, sym, arith, length-append}
use Rattle.demo_make.proofs.Lines.{text_before, text_before-next, line-fits}
use Rattle.demo_make.proofs.text.push_map.Goals as goal

pub extend-requires : goal.extend-requires
extend-requires c =
    let i = c.loop-index.index in
    omega (
      arith,
      line-fits i c.map_line.result c.map_line.ensures.line,
      ap length c.loop-index.invariant,
      ap length (c.as_slice.ensures.value ∙ c.print_map_line.ensures),
    )

pub extend-requires-in-loop-index : goal.extend-requires-in-loop-index
extend-requires-in-loop-index c =
    let i = c.loop-index.index in
    let slice = c.as_slice.ensures.value ∙ c.print_map_line.ensures in
    omega (
      arith,
      line-fits i c.map_line.result c.map_line.ensures.line,
      ap length c.loop-index.invariant,
      ap length slice,
      ap length c.extend.ensures,
      length-append c.loop-index.text c.as_slice.result.now,
    )

pub loop-index-preserved : goal.loop-index-preserved
loop-index-preserved c =
    let i = c.loop-index.index in
    let slice = c.as_slice.ensures.value ∙ c.print_map_line.ensures in
    c.extend-in-loop-index.ensures
    ∙ ap (λ t. t ++ 10 ∷ [])
    (c.extend.ensures
    ∙ ap (λ t. t ++ c.as_slice.result.now) c.loop-index.invariant
    ∙ ap (λ t. text_before i ++ t) slice)
    ∙ sym (text_before-next i c.map_line.result c.map_line.ensures.line)
