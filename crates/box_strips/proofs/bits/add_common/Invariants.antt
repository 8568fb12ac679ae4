use Rattle.std.proofs.Common.{◌≡◌, length}
use Rattle.box_strips.proofs.PlaceBits.{AreCommon}
use Rattle.box_strips.proofs.bits.add_common.Given as goal

abbrev pub invariant-loop-word : goal.invariant-loop-word
invariant-loop-word l = record { are : AreCommon l.fn.bits l.a l.b l.c l.d l.bits l.word; long : length l.bits ≡ length l.fn.bits }
