use Rattle.std.proofs.Common.{◌≡◌, ◌*◌, take, length}
use Rattle.hex.specs.Hex.{encode_lower}
use Rattle.out_text.proofs.printing.many_digits_of.Given as goal

-- the digits of the bytes so far are put
abbrev pub invariant-loop-i : goal.invariant-loop-i
invariant-loop-i l = (length l.digits ≡ 64) × (take (2 * l.i) l.digits ≡ encode_lower (take l.i l.bytes))
