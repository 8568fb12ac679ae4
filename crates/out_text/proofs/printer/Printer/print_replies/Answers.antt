use Rattle.out_text.specs.OutLines.{ToLine, printed_line}
use Rattle.out_text.proofs.Buffering.{prints_more, fails_at, has_room, left_of_replies, on_err, not_failed}
use Rattle.out_text.proofs.printer.Printer.print_replies.Goals as goal

pub loop-i-preserved : goal.loop-i-preserved
loop-i-preserved g c =
    let here = left_of_replies c.args.slots.now c.args.replies.now c.loop-i.i _ _ c.loop-i-test.true c.requires.one_each in
    prints_more g.K.Sink.taken g.K.Sink.faults g.K.Sink.room _ _ _ _ _ _ (printed_line (ToLine _ _)) _ _ (rw here at c.loop-i.invariant) (rw (c.as_slice-bytes.ensures.value, c.index-replies-i.is) at c.in_ok-print_reply.ensures.ok)

pub returns-in_err-print_reply-clause-err : goal.returns-in_err-print_reply-clause-err
returns-in_err-print_reply-clause-err g c =
    let here = left_of_replies c.args.slots.now c.args.replies.now c.loop-i.i _ _ c.loop-i-test.true c.requires.one_each in
    on_err _ _ (fails_at g.K.Sink.taken g.K.Sink.faults g.K.Sink.room _ _ _ _ _ (printed_line (ToLine _ _)) _ _ (rw here at c.loop-i.invariant) (rw (c.as_slice-bytes.ensures.value, c.index-replies-i.is) at c.in_err-print_reply.ensures.err))

pub returns-in_err-print_reply-clause-sure : goal.returns-in_err-print_reply-clause-sure
returns-in_err-print_reply-clause-sure g c =
    let here = left_of_replies c.args.slots.now c.args.replies.now c.loop-i.i _ _ c.loop-i-test.true c.requires.one_each in
    λ fits. not_failed ((rw (c.as_slice-bytes.ensures.value, c.index-replies-i.is) at c.in_err-print_reply.ensures.sure) (has_room g.K.Sink.taken g.K.Sink.faults g.K.Sink.room _ _ _ _ (printed_line (ToLine _ _)) _ _ (rw here at c.loop-i.invariant) fits))
