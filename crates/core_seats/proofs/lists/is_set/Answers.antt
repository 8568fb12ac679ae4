use Rattle.std.proofs.Common.{◌==◌, ℕ, ap}
use Rattle.std.proofs.lemmas.Nat.Bits.{shr_and_one}
use Rattle.core_seats.proofs.lists.is_set.Goals as goal

pub returns : goal.returns
returns c = ap (λ (n : ℕ). n == 1) (shr_and_one c.args.word c.args.i)
