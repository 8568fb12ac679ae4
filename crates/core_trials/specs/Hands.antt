-- Seats each with a command of the player with its number.
use Rattle.std.specs.Prelude.{ℕ, ◌≡◌, ◌<◌, ◌≤◌, true, map, length, Some, slice_index_or}
use Rattle.core_steps.specs.declared.sizes.TheConstants.{MOST_SEATS}
use Rattle.entity_recs.specs.declared.rec.Rec.{Rec}
use Rattle.entity_recs.specs.Commands.{Command}
use Rattle.core_steps.specs.Nodes.{has}
use Rattle.core_steps.specs.MachineLaws.{hand_of}
use Rattle.core_machine.specs.Cores.{CoreView, no_seat}

-- there are at most as many seats as there may be, each with room for an entry, the players with their numbers are live,
-- and a command that a seat has in hand is of the player with its number
pub record HasOwnCommands {A : Type 0} (c : CoreView A) : Type 0 where
  pub few : length c.seats ≤ MOST_SEATS
  pub lives : (j : ℕ) → j < length c.seats → (slice_index_or c.seats j no_seat).view.live ≡ true
  pub room : (j : ℕ) → j < length c.seats → 0 < (slice_index_or c.seats j no_seat).view.room
  pub player : (j : ℕ) → j < length c.seats → has (map (λ (r : Rec). r.id) c.rules.start) j ≡ true
  pub own : (j : ℕ) (cmd : Command)
      → hand_of (slice_index_or c.seats j no_seat).given (slice_index_or c.seats j no_seat).view ≡ Some cmd
      → cmd.slot ≡ j
