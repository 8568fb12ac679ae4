use Rattle.core_machine.proofs.seat.Seat.resolved_step.Goals as goal

pub home-requires-2-after_bounds : goal.home-requires-2-after_bounds
home-requires-2-after_bounds g c = λ κs _. c.requires.after c.in-Some.effect c.in-Some.is
