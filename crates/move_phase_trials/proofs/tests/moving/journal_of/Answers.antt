use Rattle.std.proofs.Common.{◌≡◌, ap, arith}
use Rattle.move_journal.specs.Logs.{JournalView}
use Rattle.move_phase_trials.proofs.tests.moving.journal_of.Goals as goal

pub start-requires-clause-few : goal.start-requires-clause-few
start-requires-clause-few g c = omega (arith, c.requires.few)

pub run-requires-clause-room : goal.run-requires-clause-room
run-requires-clause-room g c =
    let room : c.in_ok-journal.journal.room ≡ 512 = ap (λ (j : JournalView). j.room) c.in_ok-journal.ensures in
    omega (arith, room, c.requires.few)
