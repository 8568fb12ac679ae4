-- The limits of the commands, in numbers.
use Rattle.std.specs.Prelude.{◌≡◌}
use Rattle.arena_engine.specs.declared.commands.check.TheConstants.{MOST_CHECKED_FRAMES}
use Rattle.arena_engine.specs.declared.summary.TheConstants.{MOST_SUMMARY_BYTES}

-- `check` reads recordings of at most 2,000 frames, and the line of a match has at most 300 bytes
pub record LimitsAreKnown : Type 0 where
  pub checked : MOST_CHECKED_FRAMES ≡ 2000
  pub summary : MOST_SUMMARY_BYTES ≡ 300
