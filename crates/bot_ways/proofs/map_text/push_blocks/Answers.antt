use Rattle.std.proofs.Common.{◌<◌, length, get_or, List, sym, ap, ◌∙◌, subst, arith}
use Rattle.arena_geo.specs.Bounds.{Bounds}
use Rattle.arena_geo.specs.Vectors.{IsNear}
use Rattle.arena_map.specs.Maps.{IsBlock}
use Rattle.demo_lines.proofs.RecordingsRead.{block_near}
use Rattle.bot_ways.proofs.map_text.push_blocks.Goals as goal

pub push_line-requires : goal.push_line-requires
push_line-requires c =
    let m = c.args.map.now in
    let is = c.blocks-block-items.ensures.rules in
    let same = c.blocks-block-items.ensures.value in
    let here = c.block-item.result in
    let within : c.loop-block.block-index < length m.blocks = omega (arith, c.loop-block-test.true, ap (λ (bs : List Bounds). length bs) same) in
    let block : IsBlock m.bounds here =
    subst (IsBlock m.bounds) (sym (c.block-item.is ∙ ap (λ (bs : List Bounds). get_or bs c.loop-block.block-index here) same)) (is.blocks c.loop-block.block-index here within) in
    let near = block_near m.bounds here is.lo is.hi block in
    (subst (IsNear 1048576) (sym c.lo.ensures.value) near.0, subst (IsNear 1048576) (sym c.hi.ensures.value) near.1)
