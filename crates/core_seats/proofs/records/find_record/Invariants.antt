use Rattle.std.proofs.Common.{◌≡◌, drop}
use Rattle.core_seats.specs.Starts.{record_at}
use Rattle.core_seats.proofs.records.find_record.Given as goal

abbrev pub invariant-loop-r : goal.invariant-loop-r
invariant-loop-r l = record_at l.start l.id ≡ record_at (drop l.r-index l.start) l.id
