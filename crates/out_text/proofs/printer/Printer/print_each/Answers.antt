use Rattle.std.proofs.Common.{◌∙◌, ap}
use Rattle.out_text.specs.OutLines.{printed_line}
use Rattle.out_text.proofs.Buffering.{prints_more, fails_at, has_room, left_of_each, on_err, not_failed}
use Rattle.out_text.proofs.printer.Printer.print_each.Goals as goal

pub loop-item-preserved : goal.loop-item-preserved
loop-item-preserved g c =
    let here = left_of_each g.T.Printed.line c.args.items.now c.loop-item.item-index _ c.loop-item-test.true in
    let line = c.line.ensures.is ∙ ap g.T.Printed.line c.item-item.is in
    prints_more g.K.Sink.taken g.K.Sink.faults g.K.Sink.room _ _ _ _ _ _ (printed_line (g.T.Printed.line _)) _ _ (rw here at c.loop-item.invariant) (rw line at c.in_ok-print.ensures.ok)

pub returns-in_err-print-clause-err : goal.returns-in_err-print-clause-err
returns-in_err-print-clause-err g c =
    let here = left_of_each g.T.Printed.line c.args.items.now c.loop-item.item-index _ c.loop-item-test.true in
    let line = c.line.ensures.is ∙ ap g.T.Printed.line c.item-item.is in
    on_err _ _ (fails_at g.K.Sink.taken g.K.Sink.faults g.K.Sink.room _ _ _ _ _ (printed_line (g.T.Printed.line _)) _ _ (rw here at c.loop-item.invariant) (rw line at c.in_err-print.ensures.err))

pub returns-in_err-print-clause-sure : goal.returns-in_err-print-clause-sure
returns-in_err-print-clause-sure g c =
    let here = left_of_each g.T.Printed.line c.args.items.now c.loop-item.item-index _ c.loop-item-test.true in
    let line = c.line.ensures.is ∙ ap g.T.Printed.line c.item-item.is in
    λ fits. not_failed ((rw line at c.in_err-print.ensures.sure) (has_room g.K.Sink.taken g.K.Sink.faults g.K.Sink.room _ _ _ _ (printed_line (g.T.Printed.line _)) _ _ (rw here at c.loop-item.invariant) fits))
