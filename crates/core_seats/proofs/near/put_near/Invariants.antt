use Rattle.std.proofs.Common.{◌≡◌, ◌≤◌, take, length, map}
use Rattle.std.specs.List.{filter_map}
use Rattle.core_seats.specs.PlayerReads.{player_read_of}
use Rattle.core_seats.specs.NearRecords.{near_one}
use Rattle.core_seats.proofs.near.put_near.Given as goal

abbrev pub invariant-loop-r : goal.invariant-loop-r
invariant-loop-r l = record {
  list : l.list.items ≡ filter_map (near_one l.region l.slot (map player_read_of l.others) l.states) (take l.r-index l.start);
  few : length l.list.items ≤ l.r-index;
  room : l.list.room ≡ l.initial.list.room;
}
