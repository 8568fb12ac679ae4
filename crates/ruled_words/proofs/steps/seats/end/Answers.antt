use Rattle.std.proofs.Common.{sym, subst, ℕ, ◌<◌, arith}
use Rattle.ruled_words.proofs.Seating.{may_end}
use Rattle.ruled_words.proofs.steps.seats.end.Goals as goal

pub join_seat-requires : goal.join_seat-requires
join_seat-requires g c =
    let here = c.requires in (
      here.table.0,
      here.table.1,
      here.carries,
      subst (λ (n : ℕ). 0 < n) (sym here.table.2) (omega arith),
      may_end _ _ _ _ _ _ here.rests.0 here.first here.rests.1,
    )
