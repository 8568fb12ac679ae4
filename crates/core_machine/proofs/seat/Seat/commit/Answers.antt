use Rattle.std.proofs.Common.{◌≡◌, add-one, refl}
use Rattle.core_machine.proofs.seat.Seat.commit.Goals as goal

pub home-requires-in-Some-after_bounds : goal.home-requires-in-Some-after_bounds
home-requires-in-Some-after_bounds g c = λ κs _. c.requires.after c.in-Some.effect c.in-Some.is

pub returns-in-Some-clause-view : goal.returns-in-Some-clause-view
returns-in-Some-clause-view g c = λ e is.
    let same : c.in-Some.effect ≡ e = cc in
    rw (← same, c.hand-cmd.ensures, c.in-Some.is, c.push.ensures, c.same_reply.ensures, c.stores_of-self.ensures, c.home.ensures.node, c.home-in-Some.ensures.node, c.before-before.ensures, add-one) refl
