-- The takes of a seat that were refused, as its view has them.
use Rattle.std.specs.Prelude.{◌≡◌, Option}
use Rattle.std.specs.Option.{option_map}
use Rattle.core_steps.specs.Reads as core_reads
use Rattle.core_steps.specs.Reads.{View}
use Rattle.core_seats.specs.declared.refusals.Refused.{Refused}
use Rattle.core_seats.specs.declared.refusals.Refusals.{Refusals}

-- the refused take of the definitions
abbrev pub refused_of : Refused → core_reads.Refused
refused_of r = record { node = r.node; word = r.word; own = r.own.items; wanted = r.wanted.items }

-- the last of these refused takes
abbrev pub last_of : Refusals → Option core_reads.Refused
last_of r = option_map refused_of r.last

-- as many takes were refused as the view says, and the last one is its last one
pub record AreRefusals (r : Refusals) (view : View) : Type 0 where
  pub count : r.count ≡ view.refusals
  pub last : last_of r ≡ view.refused
