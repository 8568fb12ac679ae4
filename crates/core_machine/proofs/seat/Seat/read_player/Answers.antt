use Rattle.std.proofs.Common.{ℕ, List, ap, ◌∙◌, arith}
use Rattle.core_steps.specs.Points as core_points
use Rattle.core_machine.specs.Points.{point_of}
use Rattle.core_machine.proofs.seat.Seat.read_player.Goals as goal

pub push-requires : goal.push-requires
push-requires g c =
    let qs = c.args.self.now.queues in
    (omega arith, c.requires.part c.in-Loading.node qs.part.items qs.players.items qs.plan.items (ap (point_of qs) c.in-Loading.is))

pub load_player-requires-clause-room : goal.load_player-requires-clause-room
load_player-requires-clause-room g c κs within =
    let qs = c.args.self.now.queues in
    let node = c.in-Loading.node in
    let left = c.pop_first.new.self.items in
    c.requires.room node c.in-Some-pop_first.slot qs.part.items left qs.plan.items
    (ap (point_of qs) c.in-Loading.is ∙ ap (λ (ns : List ℕ). core_points.Loading node qs.part.items ns qs.plan.items) c.in-Some-pop_first.ensures)
