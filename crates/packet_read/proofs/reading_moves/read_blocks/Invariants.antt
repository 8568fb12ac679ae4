use Rattle.std.proofs.Common.{length}
use Rattle.packet_read.proofs.Loops.{IsReading}
use Rattle.packet_read.proofs.reading_moves.read_blocks.Given as goal

-- the commands so far, with those of the bytes that are left, are all
abbrev pub invariant-loop-left : goal.invariant-loop-left
invariant-loop-left l = IsReading l.fn.bytes l.fn.blocks l.left l.cmds

abbrev pub decreases-loop-left : goal.decreases-loop-left
decreases-loop-left l = length l.left
