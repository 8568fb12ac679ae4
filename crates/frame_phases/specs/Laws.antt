-- The numbers of this crate.
use Rattle.std.specs.Prelude.{◌≡◌}
use Rattle.packet_read.specs.declared.arrival.TheConstants.{MOST_ARRIVALS}
use Rattle.arena_map.specs.declared.limits.TheConstants.{MOST_FRAMES}

-- how many packets a frame has at the most, and how many frames a server runs
pub record LimitsAreKnown : Type 0 where
  pub arrivals : MOST_ARRIVALS ≡ 512
  pub frames : MOST_FRAMES ≡ 100000
