use Rattle.std.proofs.Common.{◌≡◌, ◌++◌, map, take, All}
use Rattle.core_machine.specs.Cores.{seat_of}
use Rattle.core_machine.specs.ListRooms.{HasThingsRoom}
use Rattle.core_machine.proofs.Starting.{more_seat}
use Rattle.core_machine.proofs.machine.add_seats.Given as goal

abbrev pub invariant-loop-entries : goal.invariant-loop-entries
invariant-loop-entries l = record {
  seats : map seat_of l.seats.items ≡ map seat_of l.initial.seats.items ++ map more_seat (take l.entries-index l.room);
  things : All HasThingsRoom l.seats.items;
}
