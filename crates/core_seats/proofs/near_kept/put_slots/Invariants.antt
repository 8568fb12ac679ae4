use Rattle.std.proofs.Common.{◌≡◌}
use Rattle.core_seats.proofs.SlotLists.{ArePut}
use Rattle.core_seats.proofs.near_kept.put_slots.Given as goal

abbrev pub invariant-loop-rest : goal.invariant-loop-rest
invariant-loop-rest l = record { put : ArePut l.region l.by_slot l.slots l.rest l.list.items; room : l.list.room ≡ l.initial.list.room }

abbrev pub decreases-loop-rest : goal.decreases-loop-rest
decreases-loop-rest l = l.rest
