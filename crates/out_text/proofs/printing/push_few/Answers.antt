use Rattle.out_text.proofs.Digits.{some_more, room_left}
use Rattle.out_text.proofs.printing.push_few.Goals as goal

pub loop-rest-preserved : goal.loop-rest-preserved
loop-rest-preserved g c = record {
  all = rw c.extend.ensures (some_more c.loop-rest.out _ c.loop-rest.rest.now c.digits_of.result 8 c.digits_of.ensures c.loop-rest.invariant.all);
  room = rw c.extend.ensures (room_left c.loop-rest.out c.loop-rest.rest.now c.digits_of.result g.row.MOST 8 c.digits_of.ensures c.loop-rest-test.true c.loop-rest.invariant.room);
}
