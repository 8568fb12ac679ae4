use Rattle.std.proofs.Common.{length, ap, refl, arith}
use Rattle.core_machine.specs.SeatLogs.{LogView}
use Rattle.core_machine.proofs.Logs.{items_of-length, items_of-append}
use Rattle.core_machine.proofs.log.SeatLog.push.Goals as goal

pub push_reserved-requires : goal.push_reserved-requires
push_reserved-requires c =
    let room = ap (λ (l : LogView). l.room) c.self.view_is in
    let items = ap (λ (l : LogView). length l.items) c.self.view_is in
    omega (arith, room, items, items_of-length c.self.inside.commands.items c.self.inside.entries.entries c.self.invariant.same)

pub push-requires : goal.push-requires
push-requires c =
    let room = ap (λ (l : LogView). l.room) c.self.view_is in
    let items = ap (λ (l : LogView). length l.items) c.self.view_is in
    omega (arith, room, items, items_of-length c.self.inside.commands.items c.self.inside.entries.entries c.self.invariant.same)

pub returns : goal.returns
returns c =
    rw (← c.self.view_is, c.push_reserved.ensures.items, c.push.ensures, items_of-append _ _ c.args.cmd c.args.entry c.self.invariant.same) refl
