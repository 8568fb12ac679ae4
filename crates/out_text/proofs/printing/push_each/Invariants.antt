use Rattle.std.proofs.Common.{◌≡◌, ◌+◌, ◌*◌, ◌≤◌, ◌++◌, drop, length}
use Rattle.hex.specs.Hex.{encode_lower}
use Rattle.out_text.proofs.printing.push_each.Given as goal

-- what is put so far and the digits of the bytes left are all, and there is room for them
abbrev pub invariant-loop-b : goal.invariant-loop-b
invariant-loop-b g l = record {
  all : l.out ++ encode_lower (drop l.b-index l.bytes) ≡ l.fn.out ++ encode_lower l.bytes;
  room : length l.out + 2 * length (drop l.b-index l.bytes) ≤ g.row.MOST;
}
