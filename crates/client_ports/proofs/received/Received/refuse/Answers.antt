use Rattle.std.proofs.Common.{ap, arith}
use Rattle.client_ports.specs.Lists.{ReceivedView}
use Rattle.client_ports.proofs.received.Received.refuse.Goals as goal

pub overflow_cast-place : goal.overflow_cast-place
overflow_cast-place c = omega (arith, c.requires.place, ap (λ (r : ReceivedView). r.room.refused) c.self.view_is, c.self.invariant.small)
