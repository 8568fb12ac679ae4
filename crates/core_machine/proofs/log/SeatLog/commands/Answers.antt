use Rattle.std.proofs.Common.{List, map, ap, ◌∙◌}
use Rattle.entity_recs.specs.declared.cmd.Cmd.{Cmd}
use Rattle.entity_recs.specs.Commands.{command_of}
use Rattle.entity_recs.specs.Histories.{commands_of}
use Rattle.core_machine.specs.SeatLogs.{LogView}
use Rattle.core_machine.proofs.Logs.{commands_of-items}
use Rattle.core_machine.proofs.log.SeatLog.commands.Goals as goal

pub returns : goal.returns
returns c =
    ap (λ (cs : List Cmd). map command_of cs) c.as_slice.ensures.value ∙ commands_of-items _ _ c.self.invariant.same ∙ ap (λ (l : LogView). commands_of l.items) c.self.view_is
