use Rattle.std.proofs.Common.{◌≡◌, ◌≤◌, ◌==◌, ◌&&◌, length}
use Rattle.std.specs.Prelude.{filter, not}
use Rattle.std.specs.List.{range_with_len}
use Rattle.areanode.specs.Words.{has_bit}
use Rattle.core_machine.proofs.lists.players_of.Given as goal

abbrev pub invariant-loop-slot : goal.invariant-loop-slot
invariant-loop-slot l = record { players : l.players.items ≡ filter (λ slot. has_bit l.word slot && not (slot == l.own)) (range_with_len 0 l.slot); few : length l.players.items ≤ l.slot }
