-- The room of the lists of what was received.
use Rattle.std.specs.Prelude.{ℕ, ◌<◌, ◌≤◌, ◌^◌}
use Rattle.client_ports.specs.Lists.{most_moves}

-- the lists have room for what so many packets can give, and a place of one of them has 32 bits
pub record IsRoomy (most moves joined refused : ℕ) : Type 0 where
  pub moves_fit : most_moves most ≤ moves
  pub joined_fit : most ≤ joined
  pub refused_fit : most ≤ refused
  pub small : most < 2 ^ 32
