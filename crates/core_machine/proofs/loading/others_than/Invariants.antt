use Rattle.std.proofs.Common.{◌≡◌, ◌≤◌, ◌==◌, take, length}
use Rattle.std.specs.Prelude.{filter, not}
use Rattle.core_seats.specs.declared.reads.PlayerRead.{PlayerRead}
use Rattle.core_machine.proofs.loading.others_than.Given as goal

abbrev pub invariant-loop-read : goal.invariant-loop-read
invariant-loop-read l = record { kept : l.kept.items ≡ filter (λ (r : PlayerRead). not (r.slot == l.slot)) (take l.read-index l.others); few : length l.kept.items ≤ l.read-index }
