use Rattle.std.proofs.Common.{◌≡◌, length}
use Rattle.core_seats.specs.Shown.{fixed_of}
use Rattle.core_machine.specs.Cores.{machine_of}
use Rattle.core_machine.proofs.Filled.{IsFilled}
use Rattle.core_trials.proofs.schedule.begun.Given as goal

abbrev pub invariant-loop-slot : goal.invariant-loop-slot
invariant-loop-slot g l = record {
  rules : l.core.rules ≡ l.initial.core.rules;
  seats : length l.core.seats ≡ length l.room;
  filled : IsFilled (machine_of (fixed_of g.A.Action.meaning l.initial.core.rules) l.core) l.slot (length l.room);
}
