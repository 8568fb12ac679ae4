use Rattle.client_ports.specs.States.{state_of, IsState}
use Rattle.move_phase_trials.proofs.tests.receiving.right_rows.Given as goal

-- the state fits the map after each frame
abbrev pub invariant-loop-i : goal.invariant-loop-i
invariant-loop-i g l = IsState l.map (state_of l.ports l.world.records)
