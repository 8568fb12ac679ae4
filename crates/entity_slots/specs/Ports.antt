-- The ports of the live slots: a list with a place for each slot, which has the port that is joined there, if any.
use Rattle.std.specs.Prelude.{◌≡◌, ℕ, Bool, false, ◌==◌, List, length, replicate, Option, Some, None, is_some}
use Rattle.std.specs.Prelude.{slice_index_or, slice_set}
use Rattle.std.specs.List.{list_any, list_all, position}

-- the number of slots
abbrev pub slot_count : ℕ
slot_count = 64

-- no slot is live
abbrev pub no_ports : List (Option ℕ)
no_ports = replicate slot_count None

-- the port that is joined in this slot, if the slot is live
abbrev pub port_at : List (Option ℕ) → ℕ → Option ℕ
port_at ports slot = slice_index_or ports slot None

-- there is one slot for each place, and no port is joined in two of them
pub record AreSlots (ports : List (Option ℕ)) : Type 0 where
  pub count : length ports ≡ slot_count
  pub apart : (i j port : ℕ) → port_at ports i ≡ Some port → port_at ports j ≡ Some port → i ≡ j

-- the slot is live, and this port is joined there
abbrev pub has_port : ℕ → Option ℕ → Bool
has_port port None = false
has_port port (Some p) = p == port

-- the port is joined in some slot
abbrev pub is_joined : List (Option ℕ) → ℕ → Bool
is_joined ports port = list_any (has_port port) ports

-- the slot in which the port is joined
abbrev pub slot_of : List (Option ℕ) → ℕ → Option ℕ
slot_of ports port = position (has_port port) ports

-- all slots are live
abbrev pub is_full : List (Option ℕ) → Bool
is_full ports = list_all is_some ports

-- the slots with this port in this one
abbrev pub with_port : List (Option ℕ) → ℕ → ℕ → List (Option ℕ)
with_port ports slot port = slice_set ports slot (Some port)

-- the slots with this one free
abbrev pub without_slot : List (Option ℕ) → ℕ → List (Option ℕ)
without_slot ports slot = slice_set ports slot None
