use Rattle.std.proofs.Common.{◌<◌, List, length, sym, subst}
use Rattle.entity_recs.specs.declared.effect.Entry.{Entry}
use Rattle.entity_recs.specs.Commands.{command_of}
use Rattle.entity_recs.specs.Histories.{Item}
use Rattle.ruled_words.specs.Passes.{fixed_in}
use Rattle.shared_moves.specs.InHand.{item_of}
use Rattle.shared_moves.specs.Moves.{HasRun}
use Rattle.shared_moves.proofs.PassRuns.{some_logged}
use Rattle.shared_moves.proofs.shared.Shared.run.Goals as goal

pub last_entry-requires : goal.last_entry-requires
last_entry-requires g c =
    let ran = c.run_into_log.ensures in
    subst (λ (log : List Item). 0 < length log) (sym ran.run.log) (some_logged c.args.pass.now.view.log (item_of (command_of c.args.cmd) ran.entry))

pub returns : goal.returns
returns g c =
    let ran = c.run_into_log.ensures in
    subst (λ (e : Entry). HasRun (fixed_in g.A.Action.meaning c.args.self.now) (length c.args.self.now.rooms) c.args.self.now.table c.args.pass.now c.run_into_log.new.pass (command_of c.args.cmd) e)
    (sym (c.last_entry.ensures c.args.pass.now.view.log (command_of c.args.cmd) ran.entry ran.run.log)) ran.run
