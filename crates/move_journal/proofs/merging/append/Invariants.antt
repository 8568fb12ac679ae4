use Rattle.std.proofs.Common.{◌≡◌, ◌++◌, take}
use Rattle.move_journal.specs.Logs.{journal_view}
use Rattle.move_journal.proofs.merging.append.Given as goal

abbrev pub invariant-loop-entry : goal.invariant-loop-entry
invariant-loop-entry l = l.out ≡ journal_view (l.initial.out.entries ++ take l.entry-index l.entry-items) l.initial.out.room
