use Rattle.std.proofs.Common.{sym, ap, ◌∙◌}
use Rattle.core_seats.specs.Logs.{entries_of}
use Rattle.core_machine.specs.SeatLogs.{LogView}
use Rattle.core_machine.proofs.Logs.{entries_of-items}
use Rattle.core_machine.proofs.log.SeatLog.entries.Goals as goal

pub returns : goal.returns
returns c =
    c.as_slice.ensures ∙ sym (entries_of-items _ _ c.self.invariant.same) ∙ ap (λ (l : LogView). entries_of l.items) c.self.view_is
