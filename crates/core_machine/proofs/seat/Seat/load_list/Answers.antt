use Rattle.std.proofs.Common.{◌≡◌, refl}
use Rattle.core_machine.specs.Seats.{hand_of}
use Rattle.core_machine.proofs.seat.Seat.load_list.Goals as goal

pub returns-clause-view : goal.returns-clause-view
returns-clause-view g c =
    let slot : c.hand.result.slot ≡ (hand_of c.args.self.now.cmd).slot = rw c.hand.ensures refl in
    rw (c.load_under.ensures.view, c.insert.ensures.items, c.players_of-self.ensures, slot) refl
