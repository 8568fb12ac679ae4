use Rattle.std.proofs.Common.{sym, subst, ℕ, ◌<◌, ◌^◌, arith}
use Rattle.ruled_words.proofs.Seating.{may_make}
use Rattle.ruled_words.proofs.steps.seats.make_as.Goals as goal

pub split_seat-requires : goal.split_seat-requires
split_seat-requires g c =
    let here = c.requires in (
      here.table.0,
      subst (λ (n : ℕ). 0 < n) (sym here.table.1) (omega arith),
      may_make _ _ _ _ _ here.rests here.first here.more (subst (λ (n : ℕ). n < 2 ^ 32) (sym here.room) c.ranges.room.fits),
    )
