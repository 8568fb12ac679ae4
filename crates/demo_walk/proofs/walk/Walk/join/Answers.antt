use Rattle.demo_walk.proofs.Steps.{left-join}
use Rattle.demo_walk.proofs.walk.Walk.join.Goals as goal

pub returns : goal.returns
returns c =
    let w = c.args.self.now in
    rw c.from-port.ensures
    (rw c.write_packet.ensures.spelled
    (left-join w.seed w.players w.places w.opened w.frames_left w.joined w.joins_left w.moves_left w.ended c.requires w.few_joins))
