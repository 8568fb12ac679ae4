use Rattle.std.proofs.Common.{length, drop, ◌+◌, refl, sym, ap, ◌∙◌, subst, arith}
use Rattle.client_ports.specs.States.{state_of}
use Rattle.client_ports.specs.Lists.{Lists}
use Rattle.client_ports.specs.Receiving.{receiving_of, after_arrival, after_arrivals, received}
use Rattle.client_ports.proofs.Arrivals.{arrivals-next, arrivals-end}
use Rattle.client_ports.specs.Lists.{Room, IsRoomFor}
use Rattle.client_ports.proofs.Rooms.{room_left, left_next, moves_fit, whole_few}
use Rattle.client_ports.proofs.Linking.{linked-step, linked-none}
use Rattle.client_ports.proofs.ports.Ports.receive.Goals as goal

pub overflow_add-place : goal.overflow_add-place
overflow_add-place c =
    omega (arith, c.loop-arrival.invariant.place, c.loop-arrival-test.true)

pub receive_one-requires-clause-place : goal.receive_one-requires-clause-place
receive_one-requires-clause-place c =
    omega (arith, c.loop-arrival.invariant.place, c.loop-arrival-test.true, c.requires.room.refused, ap (λ (r : Room). r.refused) c.loop-arrival.invariant.room)

pub receive_one-requires-clause-room : goal.receive_one-requires-clause-room
receive_one-requires-clause-room c =
    let all = length c.args.arrivals.now in
    let fits = subst (IsRoomFor all) (sym c.loop-arrival.invariant.room) c.requires.room in
    room_left c.loop-arrival.arrival-index all c.loop-arrival.out c.loop-arrival.invariant.left c.loop-arrival-test.true fits

pub receive_one-requires-clause-moves : goal.receive_one-requires-clause-moves
receive_one-requires-clause-moves c = λ apart.
    let i = c.loop-arrival.arrival-index in
    let all = length c.args.arrivals.now in
    let fits = subst (IsRoomFor all) (sym c.loop-arrival.invariant.room) c.requires.room in
    let a = c.arrival-item.result in
    let before = receiving_of (state_of c.loop-arrival.self c.loop-arrival.world.records) c.loop-arrival.out.lists in
    let next = after_arrival c.args.map.now c.args.frame before c.loop-arrival.place a in
    let state = state_of c.args.self.now c.args.world.now.records in
    let whole = after_arrivals c.args.map.now c.args.frame (receiving_of state c.args.out.now.lists) 0 c.args.arrivals.now in
    let rest = arrivals-next c.args.map.now c.args.frame before next whole c.loop-arrival.place i a c.args.arrivals.now c.loop-arrival-test.true c.arrival-item.is refl c.loop-arrival.invariant.rest in
    let few = whole_few c.args.map.now c.args.frame state c.args.out.now.lists c.args.arrivals.now before c.loop-arrival.place (drop i c.args.arrivals.now) apart c.loop-arrival.invariant.rest c.requires.empty in
    moves_fit i all c.args.map.now c.args.frame before c.loop-arrival.place a (drop (i + 1) c.args.arrivals.now) c.loop-arrival.out.room whole c.loop-arrival.invariant.left c.loop-arrival-test.true fits rest few

pub loop-arrival-preserved : goal.loop-arrival-preserved
loop-arrival-preserved c =
    let i = c.loop-arrival.arrival-index in
    let before = receiving_of (state_of c.loop-arrival.self c.loop-arrival.world.records) c.loop-arrival.out.lists in
    let after = receiving_of (state_of c.receive_one.new.self c.receive_one.new.world.records) c.receive_one.new.out.lists in
    record {
      place = omega (arith, c.loop-arrival.invariant.place);
      room = c.receive_one.ensures.room ∙ c.loop-arrival.invariant.room;
      left = left_next i c.args.map.now c.args.frame before after c.loop-arrival.place c.arrival-item.result c.receive_one.ensures.received c.loop-arrival.invariant.left;
      linked = linked-step c.args.world.now c.loop-arrival.world c.receive_one.new.world c.loop-arrival.out.lists.joined c.receive_one.new.out.lists.joined c.loop-arrival.invariant.linked c.receive_one.ensures.world;
      tree = c.receive_one.ensures.tree ∙ c.loop-arrival.invariant.tree;
      state = c.receive_one.ensures.state;
      rest = arrivals-next c.args.map.now c.args.frame before after _ c.loop-arrival.place i c.arrival-item.result c.args.arrivals.now
          c.loop-arrival-test.true c.arrival-item.is c.receive_one.ensures.received c.loop-arrival.invariant.rest;
    }

pub returns-clause-received : goal.returns-clause-received
unfolding received
returns-clause-received c =
    let old = state_of c.args.self.now c.args.world.now.records in
    arrivals-end c.args.map.now c.args.frame (receiving_of (state_of c.loop-arrival.self c.loop-arrival.world.records) c.loop-arrival.out.lists) _ c.loop-arrival.place
    c.loop-arrival.arrival-index c.args.arrivals.now c.loop-arrival-test.false c.loop-arrival.invariant.rest
    ∙ ap (λ (l : Lists). after_arrivals c.args.map.now c.args.frame (receiving_of old l) 0 c.args.arrivals.now) c.requires.empty

pub returns-clause-world : goal.returns-clause-world
returns-clause-world c = c.loop-arrival.invariant.linked.world

pub returns-clause-unchanged : goal.returns-clause-unchanged
returns-clause-unchanged c = linked-none c.args.world.now c.loop-arrival.world c.loop-arrival.out.lists.joined c.loop-arrival.invariant.linked
