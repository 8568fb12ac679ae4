use Rattle.core_seats.specs.Shown.{fixed_of}
use Rattle.core_steps.proofs.Nexts.{some_seat_is_free}
use Rattle.core_machine.proofs.machine.Core.some_seat_goes_on.Goals as goal

pub returns : goal.returns
returns g c =
    let F = fixed_of g.A.Action.meaning c.self.inside.rules in
    let is = c.self.invariant.core.stands in
    rw (← c.self.view_is) (λ i has. some_seat_is_free F _ is.history is.now i is.stands has)
