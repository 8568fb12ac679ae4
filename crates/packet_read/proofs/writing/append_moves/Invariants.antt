use Rattle.packet_read.proofs.Loops.{IsWriting}
use Rattle.packet_read.proofs.writing.append_moves.Given as goal

-- the commands before this one were put last
abbrev pub invariant-loop-block : goal.invariant-loop-block
invariant-loop-block l = IsWriting l.initial.bytes l.cmds l.block-index l.bytes
