use Rattle.std.proofs.Common.{◌≡◌, ◌++◌, take}
use Rattle.move_journal.specs.Logs.{journal_view}
use Rattle.move_journal.specs.ByPlace.{entries_in}
use Rattle.move_journal.proofs.merging.append_all.Given as goal

abbrev pub invariant-loop-log : goal.invariant-loop-log
invariant-loop-log l = l.out ≡ journal_view (l.initial.out.entries ++ entries_in (take l.log-index l.logs)) l.initial.out.room
