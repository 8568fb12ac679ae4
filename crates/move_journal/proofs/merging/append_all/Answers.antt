use Rattle.std.proofs.Common.{take, length, arith, ap, length-append}
use Rattle.move_journal.specs.Logs.{JournalView}
use Rattle.move_journal.specs.ByPlace.{entries_in}
use Rattle.move_journal.proofs.LogEntries.{log_fits}
use Rattle.move_journal.proofs.merging.append_all.Goals as goal

pub append-requires : goal.append-requires
append-requires c =
    let fits = log_fits c.args.logs.now c.loop-log.log-index c.log-item.result c.loop-log-test.true in
    let count = ap (λ (out : JournalView). length out.entries) c.loop-log.invariant in
    let room = ap (λ (out : JournalView). out.room) c.loop-log.invariant in
    let before = length-append c.args.out.now.entries (entries_in (take c.loop-log.log-index c.args.logs.now)) in
    let here = ap (λ (log : JournalView). length log.entries) c.log-item.is in
    record { room = omega (arith, fits, count, room, before, here, c.requires.room) }
