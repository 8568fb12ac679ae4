use Rattle.core_machine.proofs.PointCases.{not_entered}
use Rattle.core_machine.proofs.seat.Seat.read_list.Goals as goal

pub returns-in_default-clause-view : goal.returns-in_default-clause-view
returns-in_default-clause-view g c = λ node plan at. not_entered c.args.self.now.queues c.args.self.now.point node plan c.in_default.not-Entered at
