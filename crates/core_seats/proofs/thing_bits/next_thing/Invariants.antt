use Rattle.std.proofs.Common.{◌*◌, ◌-◌, ◌≤◌}
use Rattle.core_seats.specs.declared.thing_bits.TheConstants.{THING_WORDS}
use Rattle.core_seats.specs.ThingBits.{AreApart}
use Rattle.core_seats.proofs.thing_bits.next_thing.Given as goal

abbrev pub invariant-loop-place : goal.invariant-loop-place
invariant-loop-place l = record { least : l.from ≤ l.at; apart : AreApart l.region l.boxes l.from l.at }

abbrev pub decreases-loop-place : goal.decreases-loop-place
decreases-loop-place l = 64 * THING_WORDS - l.at
