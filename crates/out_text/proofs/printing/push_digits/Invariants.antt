use Rattle.std.proofs.Common.{◌≡◌, ◌+◌, ◌*◌, ◌≤◌, ◌++◌, length}
use Rattle.hex.specs.Hex.{encode_lower}
use Rattle.out_text.proofs.printing.push_digits.Given as goal

-- what is put so far and the digits of the rest are all, and there is room for them
abbrev pub invariant-loop-rest : goal.invariant-loop-rest
invariant-loop-rest g l = record {
  all : l.out ++ encode_lower l.rest ≡ l.fn.out ++ encode_lower l.fn.bytes;
  room : length l.out + 2 * length l.rest ≤ g.row.MOST;
}

abbrev pub decreases-loop-rest : goal.decreases-loop-rest
decreases-loop-rest g l = length l.rest
