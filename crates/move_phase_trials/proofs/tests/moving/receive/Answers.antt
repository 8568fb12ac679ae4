use Rattle.client_ports.specs.States.{state_of}
use Rattle.client_ports.specs.Receiving.{receiving_of}
use Rattle.move_phase_trials.proofs.TestWorlds.{opening_state, got}
use Rattle.move_phase_trials.proofs.tests.moving.receive.Goals as goal

pub receive-requires-clause-live : goal.receive-requires-clause-live
receive-requires-clause-live c =
    (opening_state c.args.map.now c.new-ports.result c.args.world.now.records c.requires.rules c.requires.linked.places c.requires.opening c.new-ports.ensures).fits.live

pub receive-requires-clause-valid : goal.receive-requires-clause-valid
receive-requires-clause-valid c =
    (opening_state c.args.map.now c.new-ports.result c.args.world.now.records c.requires.rules c.requires.linked.places c.requires.opening c.new-ports.ensures).fits.valid

pub returns-clause-live : goal.returns-clause-live
returns-clause-live c =
    (got c.args.map.now 0 (state_of c.new-ports.result c.args.world.now.records) _ (receiving_of (state_of c.receive.new.self c.receive.new.world.records) c.receive.new.out.lists)
    c.requires.rules
    (opening_state c.args.map.now c.new-ports.result c.args.world.now.records c.requires.rules c.requires.linked.places c.requires.opening c.new-ports.ensures)
    c.receive.ensures.received).live

pub returns-clause-apart : goal.returns-clause-apart
returns-clause-apart c =
    (got c.args.map.now 0 (state_of c.new-ports.result c.args.world.now.records) _ (receiving_of (state_of c.receive.new.self c.receive.new.world.records) c.receive.new.out.lists)
    c.requires.rules
    (opening_state c.args.map.now c.new-ports.result c.args.world.now.records c.requires.rules c.requires.linked.places c.requires.opening c.new-ports.ensures)
    c.receive.ensures.received).apart

pub returns-clause-few : goal.returns-clause-few
returns-clause-few c =
    (got c.args.map.now 0 (state_of c.new-ports.result c.args.world.now.records) _ (receiving_of (state_of c.receive.new.self c.receive.new.world.records) c.receive.new.out.lists)
    c.requires.rules
    (opening_state c.args.map.now c.new-ports.result c.args.world.now.records c.requires.rules c.requires.linked.places c.requires.opening c.new-ports.ensures)
    c.receive.ensures.received).few
