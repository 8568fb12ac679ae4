use Rattle.std.proofs.Common.{◌≡◌, length, true}
use Rattle.entity_recs.specs.Commands.{Command}
use Rattle.core_steps.specs.Nodes.{has}
use Rattle.ruled_words.specs.Passes.{fixed_in}
use Rattle.move_phase.proofs.Running.{command_at, room_for_next}
use Rattle.move_phase.proofs.serve.run_pass.Goals as goal

pub serve-requires-clause-room : goal.serve-requires-clause-room
serve-requires-clause-room g c κs within =
    room_for_next (fixed_in g.A.Action.meaning c.args.shared.now) (length c.args.shared.now.rooms) c.args.shared.now.table c.args.moves.now c.loop-cmd.cmd-index
    c.cmd-item.result c.loop-cmd-test.true c.cmd-item.is c.args.pass.now c.loop-cmd.pass c.loop-cmd.invariant c.requires.may

pub serve-requires-clause-live : goal.serve-requires-clause-live
serve-requires-clause-live g c κs within =
    command_at
    (λ (d : Command). has (fixed_in g.A.Action.meaning c.args.shared.now).start.ids d.slot ≡ true)
    c.args.moves.now c.loop-cmd.cmd-index c.cmd-item.result c.loop-cmd-test.true c.cmd-item.is c.requires.live
