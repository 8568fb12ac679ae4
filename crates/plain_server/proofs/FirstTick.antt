-- The tick comes before the packets.
use Rattle.std.proofs.Common.{refl}
use Rattle.client_ports.specs.Receiving.{received}
use Rattle.plain_server.specs.Laws.{FramesBeginWithTheirTick}

pub frames_begin_so : FramesBeginWithTheirTick
unfolding received
frames_begin_so = record { alone = λ map frame state. refl; first = λ map frame state a more. refl }
