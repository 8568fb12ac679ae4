use Rattle.std.proofs.Common.{◌≡◌, Some, length, sym, subst, arith}
use Rattle.crossbeam_queue.specs.Fifo.{Pops, Learns, Held}
use Rattle.feed_queue.specs.declared.hand.Hand.{Hand}
use Rattle.feed_queue.specs.Hands.{hand_after_pop}
use Rattle.feed_queue.specs.Orders.{places_below}
use Rattle.feed_queue.specs.Rule.{IsKept, Holds}
use Rattle.feed_queue.proofs.Keeping.{gets, holds, not_empty, all_popped}
use Rattle.feed_queue.proofs.gathering.read_all.Goals as goal

pub pop_as-requires-clause-rule : goal.pop_as-requires-clause-rule
pop_as-requires-clause-rule g c =
    let ports = g.N.Ported.ports in
    let id = c.loop.pass.id in
    let P : Hand → Type 0 = λ v. Pops (IsKept ports) id v (λ x w. w ≡ hand_after_pop v x) × Learns (IsKept ports) id v (Holds ports v) in
    let evens = places_below ports 0 (length ports) in
    let odds = places_below ports 1 (length ports) in
    subst P (sym c.loop.invariant.1) (gets ports (Some evens) (Some odds) c.loop.order id, holds ports evens odds c.loop.order id)

pub unreachable-requires : goal.unreachable-requires
unreachable-requires g c =
    let ports = g.N.Ported.ports in
    let held = subst (λ (v : Hand). Held 0 (Holds ports v)) c.loop.invariant.1 c.in_default.ensures.rule.1 in
    not_empty ports c.loop.order held (omega (arith, c.loop.invariant.2, c.loop-test.true, c.requires.count))

pub returns-clause-order : goal.returns-clause-order
returns-clause-order g c =
    let ports = g.N.Ported.ports in
    let learned = c.learn_as.ensures.rule in
    all_popped ports c.loop.order learned.0 (subst (λ (v : Hand). Holds ports v learned.0) c.loop.invariant.1 learned.1)
    (omega (arith, c.loop.invariant.2, c.loop-test.false, c.loop.auto.counter-end, c.requires.count))
