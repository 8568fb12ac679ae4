use Rattle.server_state.proofs.Openings.{opened-is}
use Rattle.server_state.proofs.state.State.opening.Goals as goal

pub returns-clause-state : goal.returns-clause-state
returns-clause-state c = opened-is c.args.map.now c.in_ok-opening_world.field-0.records c.new.result c.in_ok-opening_world.ensures.records c.new.ensures
