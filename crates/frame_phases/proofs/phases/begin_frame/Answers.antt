use Rattle.std.proofs.Common.{length, sym, subst, ap, arith}
use Rattle.arena_actions.specs.MapActions.{map_in}
use Rattle.client_ports.specs.Lists.{IsRoomFor}
use Rattle.client_ports.proofs.Rooms.{room_enough}
use Rattle.client_ports.specs.States.{state_of}
use Rattle.client_ports.specs.Receiving.{receiving_of}
use Rattle.server_state.specs.declared.state.State.{State}
use Rattle.frame_phases.proofs.Frames.{is_received, received_from, live_moves, few_moves, begun_if_started, started_for}
use Rattle.frame_phases.proofs.phases.begin_frame.Goals as goal

pub receive-requires-clause-room : goal.receive-requires-clause-room
receive-requires-clause-room c =
    let few = length c.args.arrivals.now in
    subst (IsRoomFor few) (sym c.requires.lists.room) (room_enough few _ c.requires.few)

pub start-requires-clause-valid : goal.start-requires-clause-valid
start-requires-clause-valid c =
    let states = c.args.states.now in
    let state = state_of states.state.ports states.state.world.records in
    let copied = state_of c.copy_from.new.self.ports c.copy_from.new.self.world.records in
    let r = receiving_of (state_of c.receive.new.self.ports c.receive.new.self.world.records) c.receive.new.out.lists in
    let r_is = received_from (map_in c.args.action.now) c.map.result.now states.frames state copied c.args.arrivals.now r c.map.ensures.value (ap (λ (s : State). state_of s.ports s.world.records) c.copy_from.ensures)
    c.receive.ensures.received in
    let got = is_received (map_in c.args.action.now) states.frames state c.args.arrivals.now r c.requires.states.server.is_map c.requires.states.server.fits r_is in
    got.pass.state.fits.valid

pub start-requires-clause-live : goal.start-requires-clause-live
start-requires-clause-live c =
    let states = c.args.states.now in
    let state = state_of states.state.ports states.state.world.records in
    let copied = state_of c.copy_from.new.self.ports c.copy_from.new.self.world.records in
    let r = receiving_of (state_of c.receive.new.self.ports c.receive.new.self.world.records) c.receive.new.out.lists in
    let r_is = received_from (map_in c.args.action.now) c.map.result.now states.frames state copied c.args.arrivals.now r c.map.ensures.value (ap (λ (s : State). state_of s.ports s.world.records) c.copy_from.ensures)
    c.receive.ensures.received in
    let got = is_received (map_in c.args.action.now) states.frames state c.args.arrivals.now r c.requires.states.server.is_map c.requires.states.server.fits r_is in
    live_moves (map_in c.args.action.now) r c.moves.result.now c.moves.ensures got

pub start-requires-clause-few : goal.start-requires-clause-few
start-requires-clause-few c =
    let states = c.args.states.now in
    let state = state_of states.state.ports states.state.world.records in
    let copied = state_of c.copy_from.new.self.ports c.copy_from.new.self.world.records in
    let r = receiving_of (state_of c.receive.new.self.ports c.receive.new.self.world.records) c.receive.new.out.lists in
    let r_is = received_from (map_in c.args.action.now) c.map.result.now states.frames state copied c.args.arrivals.now r c.map.ensures.value (ap (λ (s : State). state_of s.ports s.world.records) c.copy_from.ensures)
    c.receive.ensures.received in
    let got = is_received (map_in c.args.action.now) states.frames state c.args.arrivals.now r c.requires.states.server.is_map c.requires.states.server.fits r_is in
    omega (arith, few_moves (map_in c.args.action.now) r c.moves.result.now c.moves.ensures got)

pub returns-clause-begun : goal.returns-clause-begun
returns-clause-begun c =
    let states = c.args.states.now in
    let state = state_of states.state.ports states.state.world.records in
    let copied = state_of c.copy_from.new.self.ports c.copy_from.new.self.world.records in
    let r = receiving_of (state_of c.receive.new.self.ports c.receive.new.self.world.records) c.receive.new.out.lists in
    let r_is = received_from (map_in c.args.action.now) c.map.result.now states.frames state copied c.args.arrivals.now r c.map.ensures.value (ap (λ (s : State). state_of s.ports s.world.records) c.copy_from.ensures)
    c.receive.ensures.received in
    let got = is_received (map_in c.args.action.now) states.frames state c.args.arrivals.now r c.requires.states.server.is_map c.requires.states.server.fits r_is in
    begun_if_started c.start.result c.args.action.now c.receive.new.self.world r c.moves.result.now c.requires.states.server.is_map got c.moves.ensures c.start.ensures.action c.start.ensures.started

pub returns-clause-received : goal.returns-clause-received
returns-clause-received c =
    let states = c.args.states.now in
    let state = state_of states.state.ports states.state.world.records in
    let copied = state_of c.copy_from.new.self.ports c.copy_from.new.self.world.records in
    let r = receiving_of (state_of c.receive.new.self.ports c.receive.new.self.world.records) c.receive.new.out.lists in
    received_from (map_in c.args.action.now) c.map.result.now states.frames state copied c.args.arrivals.now r c.map.ensures.value (ap (λ (s : State). state_of s.ports s.world.records) c.copy_from.ensures)
    c.receive.ensures.received

pub returns-clause-started : goal.returns-clause-started
returns-clause-started c = started_for c.start.result c.args.action.now c.args.workers c.start.ensures.action c.start.ensures.workers
