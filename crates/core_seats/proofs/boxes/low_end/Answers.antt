use Rattle.std.proofs.Common.{arith}
use Rattle.std.proofs.lemmas.Int.{ints}
use Rattle.core_seats.proofs.boxes.low_end.Goals as goal

pub returns : goal.returns
returns c = omega (arith, ints)
