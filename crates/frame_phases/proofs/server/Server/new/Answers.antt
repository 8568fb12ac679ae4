use Rattle.arena_actions.specs.MapActions.{map_in}
use Rattle.client_ports.specs.States.{state_of}
use Rattle.frame_phases.proofs.Openings.{first_server}
use Rattle.frame_phases.proofs.server.Server.new.Goals as goal

pub invariant_of-result : goal.invariant_of-result
invariant_of-result c =
    let state = c.in_ok-states.states.state in
    record {
      server = first_server (map_in c.args.action.now) c.map.result.now (state_of state.ports state.world.records) c.map.ensures.value c.map.ensures.rules c.in_ok-states.ensures.state;
      tree = c.in_ok-states.ensures.tree;
      of_its_map = c.requires;
    }
