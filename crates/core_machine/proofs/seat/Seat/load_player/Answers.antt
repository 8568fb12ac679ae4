use Rattle.std.proofs.Common.{refl}
use Rattle.core_machine.proofs.ReadPlayers.{without_mapped}
use Rattle.core_machine.proofs.seat.Seat.load_player.Goals as goal

pub returns-clause-view : goal.returns-clause-view
returns-clause-view g c =
    rw (c.load_under.ensures.view, c.insert.ensures.items, c.drop_read.ensures, without_mapped c.args.slot c.args.self.now.others.items, c.requires.whole) refl
