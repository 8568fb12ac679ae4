use Rattle.feed_queue.specs.Orders.{ports_of}
use Rattle.feed_queue.proofs.gathering.gather.Given as goal

-- the ports of these packets
abbrev pub ghosts-gather_as : goal.ghosts-gather_as
ghosts-gather_as g a = record { ports = ports_of a.arrivals.now }
