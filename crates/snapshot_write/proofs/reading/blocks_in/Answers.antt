use Rattle.std.proofs.Common.{◌≤◌, ◌/◌, length, drop, arith, length-drop}
use Rattle.snapshot_write.proofs.Blocks.{fewer_blocks, rest_is}
use Rattle.snapshot_write.proofs.reading.blocks_in.Goals as goal

pub returns : goal.returns
returns c =
    let bytes = c.args.bytes.now in
    let rest = drop 43 bytes in
    let more : c.args.count ≤ length rest / 16 = omega (arith, c.requires.room, length-drop 43 bytes) in
    rw (c.as_chunks.ensures.front, rest_is 43 bytes) (fewer_blocks 16 c.args.count (length rest / 16) rest more)
