use Rattle.std.proofs.Common.{ap, arith}
use Rattle.client_ports.specs.Lists.{Room}
use Rattle.client_ports.proofs.Loops.{room-at}
use Rattle.client_ports.proofs.receive.accept_new.Goals as goal

pub accept-requires : goal.accept-requires
accept-requires c =
    let start = c.args.out.now in
    let l = c.loop-step.out in
    let most = ap (λ (r : Room). r.moves) c.loop-step.invariant.room in
    let less = room-at c.args.live.client.last c.args.frame c.args.live.slot c.loop-step.step-index start.room.moves _ c.args.steps.now l.lists start.lists c.loop-step-test.true c.if-step-live.true
    c.loop-step.invariant.accepting c.requires.room in
    omega (arith, less, most)
