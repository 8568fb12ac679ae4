-- What holds of all moves of frames.
use Rattle.std.specs.Prelude.{◌≡◌}
use Rattle.move_phase.specs.declared.rooms.TheConstants.{MOST_WORKERS}

-- at most 16 workers run moves
pub record LimitsAreKnown : Type 0 where
  pub workers : MOST_WORKERS ≡ 16
