use Rattle.demo_make.proofs.Steps.{left-join}
use Rattle.demo_make.proofs.generator.Generator.join.Goals as goal

pub returns : goal.returns
returns c =
    let g = c.args.self.now in
    rw c.from-port.ensures
    (rw c.write_packet.ensures.spelled
    (left-join g.sending g.seed g.players g.opened g.frames_left g.joins_left g.moves_left g.ended c.requires g.few_joins))
