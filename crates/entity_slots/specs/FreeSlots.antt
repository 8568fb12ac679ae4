-- Where a join goes.
use Rattle.std.specs.Prelude.{◌≡◌, ℕ, ◌<◌, List, Option, None, is_none, IsSome, Result, Err, ok_or, if◌then◌else◌}
use Rattle.std.specs.List.{position}
use Rattle.entity_slots.specs.declared.join_fault.JoinFault.{JoinFault}
use Rattle.entity_slots.specs.declared.join_fault.JoinFault.TheVariants.{Already, Full}
use Rattle.entity_slots.specs.Ports.{slot_count, port_at, is_joined}

-- the least free slot, if one is free
abbrev pub free_slot : List (Option ℕ) → Option ℕ
free_slot ports = position is_none ports

-- the slot of a join, or the first fault by which it gets none
abbrev pub slot_for : List (Option ℕ) → ℕ → Result ℕ JoinFault
slot_for ports port = if is_joined ports port then Err Already else ok_or (free_slot ports) Full

-- the slot is free, and each slot below it is live
pub record IsLeastFree (ports : List (Option ℕ)) (slot : ℕ) : Type 0 where
  pub in_range : slot < slot_count
  pub free : port_at ports slot ≡ None
  pub live_below : (k : ℕ) → k < slot → IsSome (port_at ports k)
