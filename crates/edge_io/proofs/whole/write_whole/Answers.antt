use Rattle.std.proofs.Common.{arith, ◌∙◌, ◌<◌, length, ap, length-append}
use Rattle.std.proofs.lemmas.Result.{err_from_is_err_and}
use Rattle.edge_io.proofs.Writing.{IsWritten-more, IsWritten-part}
use Rattle.edge_io.proofs.whole.write_whole.Goals as goal

pub returns-in_err-count-clause-err : goal.returns-in_err-count-clause-err
returns-in_err-count-clause-err g c =
    let p = err_from_is_err_and c.from_residual.result c.from_residual.ensures.1 in
    let some : 0 < length c.loop-rest.rest.now = grind (arith, c.loop-rest-test.true) in
    rw p.1 (IsWritten-part _ _ _ _ _ some c.loop-rest.invariant.written c.in_err-count.ensures.bytes)

pub loop-rest-preserved : goal.loop-rest-preserved
loop-rest-preserved g c =
    let some : 0 < length c.loop-rest.rest.now = grind (arith, c.loop-rest-test.true) in
    let written = c.loop-rest.invariant.written in
    record {
      written = IsWritten-more _ _ _ _ _ _ written c.in_ok-count.ensures.bytes;
      uncounted = c.in_ok-count.ensures.faults.uncounted ∙ c.loop-rest.invariant.uncounted;
      room = omega (arith, c.in_ok-count.ensures.room, c.in_ok-count.ensures.bound, c.loop-rest.invariant.room);
      unmoved = λ none. absurd (omega (arith, ap length written.split, length-append written.front c.loop-rest.rest.now));
    }
