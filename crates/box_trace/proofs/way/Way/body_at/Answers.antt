use Rattle.std.proofs.Common.{arith}
use Rattle.box_trace.proofs.Ranges.{IsInRange-body_at}
use Rattle.box_trace.proofs.way.Way.body_at.Goals as goal

pub shifted-requires : goal.shifted-requires
shifted-requires c =
    let way = c.args.self.now in
    rw c.shift_at.ensures (IsInRange-body_at way.body way.d c.args.k way.is_box.in_range way.in_range (omega arith))
