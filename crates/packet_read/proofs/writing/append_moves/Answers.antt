use Rattle.std.proofs.Common.{refl}
use Rattle.std.specs.Prelude.{pos}
use Rattle.packet_read.proofs.Loops.{write_more}
use Rattle.packet_read.proofs.writing.append_moves.Goals as goal

pub loop-block-preserved : goal.loop-block-preserved
loop-block-preserved c =
    write_more c.extend-3.new.self c.as_slice-cmds.result.now c.loop-block.block-index c.loop-block.bytes c.append_block.new.bytes _
    (record { ms = 0; wish_x = pos 0; wish_y = pos 0; buttons = 0 })
    c.loop-block.invariant c.loop-block-test.true refl c.append_block.ensures.appended c.append_block.ensures.fits
