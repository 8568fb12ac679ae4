use Rattle.std.proofs.Common.{sym, subst, ℕ, ◌<◌, arith}
use Rattle.ruled_words.proofs.Seating.{allowed_look}
use Rattle.ruled_words.proofs.steps.seats.look_as.Goals as goal

pub load-requires : goal.load-requires
load-requires g c =
    let here = c.requires in (
      here.table.0,
      subst (λ (n : ℕ). 0 < n) (sym here.table.1) (omega arith),
      allowed_look _ _ _ _ _ _ _ here.fixed here.passes here.rests,
    )
