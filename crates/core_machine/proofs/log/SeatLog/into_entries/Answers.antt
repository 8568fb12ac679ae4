use Rattle.std.proofs.Common.{List, sym, ap, ◌∙◌}
use Rattle.entity_recs.specs.declared.effect.Entry.{Entry}
use Rattle.move_journal.specs.Logs.{journal_view}
use Rattle.core_seats.specs.Logs.{entries_of}
use Rattle.core_machine.specs.SeatLogs.{LogView}
use Rattle.core_machine.proofs.Logs.{entries_of-items}
use Rattle.core_machine.proofs.log.SeatLog.into_entries.Goals as goal

pub returns : goal.returns
returns c =
    ap (λ (es : List Entry). journal_view es c.self.inside.entries.room) (sym (entries_of-items _ _ c.self.invariant.same))
    ∙ ap (λ (l : LogView). journal_view (entries_of l.items) l.room) c.self.view_is
