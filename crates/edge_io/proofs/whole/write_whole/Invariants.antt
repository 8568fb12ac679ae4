use Rattle.std.proofs.Common.{◌≡◌, ◌+◌, ◌≤◌, length}
use Rattle.edge_io.proofs.Writing.{IsWritten}
use Rattle.edge_io.proofs.whole.write_whole.Given as goal

abbrev pub invariant-loop-rest : goal.invariant-loop-rest
invariant-loop-rest g l = record {
  written : IsWritten (g.K.Sink.taken l.initial.sink) (g.K.Sink.taken l.sink) l.bytes l.rest;
  uncounted : g.K.Sink.faults l.sink ≡ g.K.Sink.faults l.initial.sink;
  room : g.K.Sink.room l.initial.sink + length l.rest ≤ g.K.Sink.room l.sink + length l.bytes;
  unmoved : length l.bytes ≡ 0 → l.sink ≡ l.initial.sink;
}

abbrev pub decreases-loop-rest : goal.decreases-loop-rest
decreases-loop-rest g l = length l.rest
