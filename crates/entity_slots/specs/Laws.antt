-- What holds of all slots.
use Rattle.std.specs.Prelude.{◌≡◌, ℕ, List, Option, Some}
use Rattle.entity_slots.specs.Ports.{AreSlots, port_at, slot_of}
use Rattle.entity_slots.specs.FreeSlots.{free_slot, IsLeastFree}

-- a port is joined in one slot alone, the one that is found for it
abbrev pub PortsAreApart : Type 0
PortsAreApart =
    (ports : List (Option ℕ)) → AreSlots ports → (slot port : ℕ) → port_at ports slot ≡ Some port
    → slot_of ports port ≡ Some slot

-- the free slot that is found is the least one
abbrev pub LeastFreeSlotIsLeast : Type 0
LeastFreeSlotIsLeast =
    (ports : List (Option ℕ)) → AreSlots ports → (slot : ℕ) → free_slot ports ≡ Some slot → IsLeastFree ports slot
