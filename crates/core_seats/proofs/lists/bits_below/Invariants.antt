use Rattle.std.proofs.Common.{◌≡◌, ◌≤◌, length}
use Rattle.std.specs.Prelude.{filter}
use Rattle.std.specs.List.{range_with_len}
use Rattle.areanode.specs.Words.{has_bit}
use Rattle.core_seats.proofs.lists.bits_below.Given as goal

abbrev pub invariant-loop-i : goal.invariant-loop-i
invariant-loop-i l = record { numbers : l.numbers.items ≡ filter (has_bit l.word) (range_with_len 0 l.i); few : length l.numbers.items ≤ l.i }
