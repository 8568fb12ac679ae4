use Rattle.std.proofs.Common.{◌≡◌, [], ◌∷◌, ◌++◌, ◌<◌, length, sym, ◌∙◌, ap, rules, arith}
use Rattle.snapshot_write.specs.declared.seen.TheConstants.{MOST_SEEN}
use Rattle.snapshot_write.proofs.Blocks.{read_on, length_read}
use Rattle.snapshot_write.proofs.reading.read_seen.Goals as goal

pub loop-block-preserved : goal.loop-block-preserved
loop-block-preserved c =
    let entity = c.in_ok-entity.entity in
    let read = read_on c.args.blocks.now c.loop-block.block-index [] c.read_block.result entity
    c.loop-block-test.true c.loop-block.invariant.right c.read_block.ensures c.in_ok-entity.was in
    let pushed : c.push.new.self ≡ c.loop-block.seen ++ entity ∷ [] = search rules in
    let room : length c.loop-block.seen < MOST_SEEN = search rules in
    let so_far = ap length c.loop-block.invariant.entities ∙ length_read c.args.blocks.now c.loop-block.block-index c.loop-block-test.true in
    record {
      entities = pushed ∙ ap (λ l. l ++ entity ∷ []) c.loop-block.invariant.entities ∙ sym read.entities;
      right = read.right;
      few = omega (arith, room, so_far);
    }
