use Rattle.std.proofs.Common.{List, length, ap, arith}
use Rattle.packet_read.specs.declared.block_list.CmdBlock.{CmdBlock}
use Rattle.client_ports.proofs.receive.moves_of_packet.Goals as goal

pub overflow_add-first : goal.overflow_add-first
overflow_add-first c =
    let cmds = ap (λ (bs : List CmdBlock). length bs) c.as_slice-block-items.ensures.value in
    omega (arith, c.first_seq-first.ensures, c.len.ensures.value, c.loop-block.invariant.count, c.loop-block-test.true, cmds, c.requires.fits.seq, c.requires.allowed.some, c.requires.allowed.numbers)
