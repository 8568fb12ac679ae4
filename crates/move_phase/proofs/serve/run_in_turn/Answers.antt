use Rattle.std.proofs.Common.{◌<◌, length, map, ap, arith}
use Rattle.entity_recs.specs.Commands.{command_of}
use Rattle.move_phase.proofs.InTurn.{next_served}
use Rattle.move_phase.proofs.serve.run_in_turn.Goals as goal

pub loop-pass-preserved : goal.loop-pass-preserved
loop-pass-preserved g c =
    let l = c.loop-pass in
    let lent = ap length c.deref_mut-pass-items.ensures.value in
    let count = l.invariant.count in
    let within : l.pass-index < length l.pass-items = omega (arith, c.loop-pass-test.true, lent, count) in
    next_served (map command_of c.args.moves.now) c.args.shared.now l.pass-index c.args.passes.now.items l.pass-items c.pass-item.result
    c.run_pass.new.pass within l.invariant c.run_pass.ensures.served
