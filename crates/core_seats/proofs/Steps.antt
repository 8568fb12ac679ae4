-- The step that comes next.
use Rattle.std.proofs.Common.{◌≡◌, true, refl, Option, Some, None, is_some}
use Rattle.std.proofs.lemmas.Bool.{false≢true}
use Rattle.core_steps.specs.Machine.{Next}
use Rattle.core_seats.specs.Nexts.{the_next}

-- where there is a next step, it is the one that is given
pub some_next : (o : Option Next) → is_some o ≡ true → o ≡ Some (the_next o)
some_next None e = absurd (false≢true e)
some_next (Some next) e = refl
