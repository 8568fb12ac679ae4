use Rattle.std.proofs.Common.{◌≡◌, ℕ, true, false, take, map, None, slice_index_or}
use Rattle.core_steps.specs.Reads.{player_at}
use Rattle.core_seats.specs.PlayerReads.{player_read_of}
use Rattle.core_seats.proofs.near.slots_read.Given as goal

abbrev pub invariant-loop-read : goal.invariant-loop-read
invariant-loop-read l = (slot : ℕ) → slice_index_or l.slots slot true ≡ false
    → player_at (map player_read_of (take l.read-index l.others)) slot ≡ None
