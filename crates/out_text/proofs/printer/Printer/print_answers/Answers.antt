use Rattle.std.proofs.Common.{map, ◌++◌, []}
use Rattle.out_text.specs.OutLines.{text_of}
use Rattle.out_text.specs.FrameLines.{no_line, joined_line, did_line, reply_lines, answer_lines}
use Rattle.out_text.proofs.Buffering.{begins_printing, prints_more, prints_last, fails_at, fails_last, has_room, text_of-answers, on_err, not_failed}
use Rattle.out_text.proofs.printer.Printer.print_answers.Goals as goal

pub returns-in_err-print_each-clause-err : goal.returns-in_err-print_each-clause-err
returns-in_err-print_each-clause-err g c =
    let out = c.args.received.now.lists in
    let a = text_of (map no_line out.refused) in
    let b = text_of (map joined_line out.joined) in
    let d = text_of (map did_line c.args.journal.now) in
    let e = text_of (reply_lines c.args.slots.now c.args.replies.now) in
    let all = text_of (answer_lines out c.args.journal.now c.args.slots.now c.args.replies.now) in
    let is = text_of-answers (map no_line out.refused) (map joined_line out.joined) (map did_line c.args.journal.now) (reply_lines c.args.slots.now c.args.replies.now) in
    let begun = begins_printing g.K.Sink.taken g.K.Sink.faults g.K.Sink.room c.args.sink.now c.args.self.now all a (b ++ (d ++ (e ++ []))) is in
    on_err _ _ (fails_at g.K.Sink.taken g.K.Sink.faults g.K.Sink.room _ _ _ _ _ a all (b ++ (d ++ (e ++ []))) begun (rw c.refused.ensures at c.in_err-print_each.ensures.err))

pub returns-in_err-print_each-clause-sure : goal.returns-in_err-print_each-clause-sure
returns-in_err-print_each-clause-sure g c =
    let out = c.args.received.now.lists in
    let a = text_of (map no_line out.refused) in
    let b = text_of (map joined_line out.joined) in
    let d = text_of (map did_line c.args.journal.now) in
    let e = text_of (reply_lines c.args.slots.now c.args.replies.now) in
    let all = text_of (answer_lines out c.args.journal.now c.args.slots.now c.args.replies.now) in
    let is = text_of-answers (map no_line out.refused) (map joined_line out.joined) (map did_line c.args.journal.now) (reply_lines c.args.slots.now c.args.replies.now) in
    let begun = begins_printing g.K.Sink.taken g.K.Sink.faults g.K.Sink.room c.args.sink.now c.args.self.now all a (b ++ (d ++ (e ++ []))) is in
    λ fits. not_failed ((rw c.refused.ensures at c.in_err-print_each.ensures.sure) (has_room g.K.Sink.taken g.K.Sink.faults g.K.Sink.room _ _ _ _ a all (b ++ (d ++ (e ++ []))) begun fits))

pub returns-in_err-print_each-2-clause-err : goal.returns-in_err-print_each-2-clause-err
returns-in_err-print_each-2-clause-err g c =
    let out = c.args.received.now.lists in
    let a = text_of (map no_line out.refused) in
    let b = text_of (map joined_line out.joined) in
    let d = text_of (map did_line c.args.journal.now) in
    let e = text_of (reply_lines c.args.slots.now c.args.replies.now) in
    let all = text_of (answer_lines out c.args.journal.now c.args.slots.now c.args.replies.now) in
    let is = text_of-answers (map no_line out.refused) (map joined_line out.joined) (map did_line c.args.journal.now) (reply_lines c.args.slots.now c.args.replies.now) in
    let begun = begins_printing g.K.Sink.taken g.K.Sink.faults g.K.Sink.room c.args.sink.now c.args.self.now all a (b ++ (d ++ (e ++ []))) is in
    let two = prints_more g.K.Sink.taken g.K.Sink.faults g.K.Sink.room _ _ _ _ _ _ a all (b ++ (d ++ (e ++ []))) begun (rw c.refused.ensures at c.in_ok-print_each.ensures.ok) in
    on_err _ _ (fails_at g.K.Sink.taken g.K.Sink.faults g.K.Sink.room _ _ _ _ _ b all (d ++ (e ++ [])) two (rw c.joined.ensures at c.in_err-print_each-2.ensures.err))

pub returns-in_err-print_each-2-clause-sure : goal.returns-in_err-print_each-2-clause-sure
returns-in_err-print_each-2-clause-sure g c =
    let out = c.args.received.now.lists in
    let a = text_of (map no_line out.refused) in
    let b = text_of (map joined_line out.joined) in
    let d = text_of (map did_line c.args.journal.now) in
    let e = text_of (reply_lines c.args.slots.now c.args.replies.now) in
    let all = text_of (answer_lines out c.args.journal.now c.args.slots.now c.args.replies.now) in
    let is = text_of-answers (map no_line out.refused) (map joined_line out.joined) (map did_line c.args.journal.now) (reply_lines c.args.slots.now c.args.replies.now) in
    let begun = begins_printing g.K.Sink.taken g.K.Sink.faults g.K.Sink.room c.args.sink.now c.args.self.now all a (b ++ (d ++ (e ++ []))) is in
    let two = prints_more g.K.Sink.taken g.K.Sink.faults g.K.Sink.room _ _ _ _ _ _ a all (b ++ (d ++ (e ++ []))) begun (rw c.refused.ensures at c.in_ok-print_each.ensures.ok) in
    λ fits. not_failed ((rw c.joined.ensures at c.in_err-print_each-2.ensures.sure) (has_room g.K.Sink.taken g.K.Sink.faults g.K.Sink.room _ _ _ _ b all (d ++ (e ++ [])) two fits))

pub returns-in_err-print_each-3-clause-err : goal.returns-in_err-print_each-3-clause-err
returns-in_err-print_each-3-clause-err g c =
    let out = c.args.received.now.lists in
    let a = text_of (map no_line out.refused) in
    let b = text_of (map joined_line out.joined) in
    let d = text_of (map did_line c.args.journal.now) in
    let e = text_of (reply_lines c.args.slots.now c.args.replies.now) in
    let all = text_of (answer_lines out c.args.journal.now c.args.slots.now c.args.replies.now) in
    let is = text_of-answers (map no_line out.refused) (map joined_line out.joined) (map did_line c.args.journal.now) (reply_lines c.args.slots.now c.args.replies.now) in
    let begun = begins_printing g.K.Sink.taken g.K.Sink.faults g.K.Sink.room c.args.sink.now c.args.self.now all a (b ++ (d ++ (e ++ []))) is in
    let two = prints_more g.K.Sink.taken g.K.Sink.faults g.K.Sink.room _ _ _ _ _ _ a all (b ++ (d ++ (e ++ []))) begun (rw c.refused.ensures at c.in_ok-print_each.ensures.ok) in
    let three = prints_more g.K.Sink.taken g.K.Sink.faults g.K.Sink.room _ _ _ _ _ _ b all (d ++ (e ++ [])) two (rw c.joined.ensures at c.in_ok-print_each-2.ensures.ok) in
    on_err _ _ (fails_at g.K.Sink.taken g.K.Sink.faults g.K.Sink.room _ _ _ _ _ d all (e ++ []) three c.in_err-print_each-3.ensures.err)

pub returns-in_err-print_each-3-clause-sure : goal.returns-in_err-print_each-3-clause-sure
returns-in_err-print_each-3-clause-sure g c =
    let out = c.args.received.now.lists in
    let a = text_of (map no_line out.refused) in
    let b = text_of (map joined_line out.joined) in
    let d = text_of (map did_line c.args.journal.now) in
    let e = text_of (reply_lines c.args.slots.now c.args.replies.now) in
    let all = text_of (answer_lines out c.args.journal.now c.args.slots.now c.args.replies.now) in
    let is = text_of-answers (map no_line out.refused) (map joined_line out.joined) (map did_line c.args.journal.now) (reply_lines c.args.slots.now c.args.replies.now) in
    let begun = begins_printing g.K.Sink.taken g.K.Sink.faults g.K.Sink.room c.args.sink.now c.args.self.now all a (b ++ (d ++ (e ++ []))) is in
    let two = prints_more g.K.Sink.taken g.K.Sink.faults g.K.Sink.room _ _ _ _ _ _ a all (b ++ (d ++ (e ++ []))) begun (rw c.refused.ensures at c.in_ok-print_each.ensures.ok) in
    let three = prints_more g.K.Sink.taken g.K.Sink.faults g.K.Sink.room _ _ _ _ _ _ b all (d ++ (e ++ [])) two (rw c.joined.ensures at c.in_ok-print_each-2.ensures.ok) in
    λ fits. not_failed (c.in_err-print_each-3.ensures.sure (has_room g.K.Sink.taken g.K.Sink.faults g.K.Sink.room _ _ _ _ d all (e ++ []) three fits))

pub returns-clause-ok : goal.returns-clause-ok
returns-clause-ok g c =
    let out = c.args.received.now.lists in
    let a = text_of (map no_line out.refused) in
    let b = text_of (map joined_line out.joined) in
    let d = text_of (map did_line c.args.journal.now) in
    let e = text_of (reply_lines c.args.slots.now c.args.replies.now) in
    let all = text_of (answer_lines out c.args.journal.now c.args.slots.now c.args.replies.now) in
    let is = text_of-answers (map no_line out.refused) (map joined_line out.joined) (map did_line c.args.journal.now) (reply_lines c.args.slots.now c.args.replies.now) in
    let begun = begins_printing g.K.Sink.taken g.K.Sink.faults g.K.Sink.room c.args.sink.now c.args.self.now all a (b ++ (d ++ (e ++ []))) is in
    let two = prints_more g.K.Sink.taken g.K.Sink.faults g.K.Sink.room _ _ _ _ _ _ a all (b ++ (d ++ (e ++ []))) begun (rw c.refused.ensures at c.in_ok-print_each.ensures.ok) in
    let three = prints_more g.K.Sink.taken g.K.Sink.faults g.K.Sink.room _ _ _ _ _ _ b all (d ++ (e ++ [])) two (rw c.joined.ensures at c.in_ok-print_each-2.ensures.ok) in
    let four = prints_more g.K.Sink.taken g.K.Sink.faults g.K.Sink.room _ _ _ _ _ _ d all (e ++ []) three c.in_ok-print_each-3.ensures.ok in
    prints_last g.K.Sink.taken g.K.Sink.faults g.K.Sink.room _ _ _ _ _ _ _ e all four c.print_replies.ensures.ok

pub returns-clause-err : goal.returns-clause-err
returns-clause-err g c =
    let out = c.args.received.now.lists in
    let a = text_of (map no_line out.refused) in
    let b = text_of (map joined_line out.joined) in
    let d = text_of (map did_line c.args.journal.now) in
    let e = text_of (reply_lines c.args.slots.now c.args.replies.now) in
    let all = text_of (answer_lines out c.args.journal.now c.args.slots.now c.args.replies.now) in
    let is = text_of-answers (map no_line out.refused) (map joined_line out.joined) (map did_line c.args.journal.now) (reply_lines c.args.slots.now c.args.replies.now) in
    let begun = begins_printing g.K.Sink.taken g.K.Sink.faults g.K.Sink.room c.args.sink.now c.args.self.now all a (b ++ (d ++ (e ++ []))) is in
    let two = prints_more g.K.Sink.taken g.K.Sink.faults g.K.Sink.room _ _ _ _ _ _ a all (b ++ (d ++ (e ++ []))) begun (rw c.refused.ensures at c.in_ok-print_each.ensures.ok) in
    let three = prints_more g.K.Sink.taken g.K.Sink.faults g.K.Sink.room _ _ _ _ _ _ b all (d ++ (e ++ [])) two (rw c.joined.ensures at c.in_ok-print_each-2.ensures.ok) in
    let four = prints_more g.K.Sink.taken g.K.Sink.faults g.K.Sink.room _ _ _ _ _ _ d all (e ++ []) three c.in_ok-print_each-3.ensures.ok in
    fails_last g.K.Sink.taken g.K.Sink.faults g.K.Sink.room _ _ _ _ _ _ e all four c.print_replies.ensures.err

pub returns-clause-sure : goal.returns-clause-sure
returns-clause-sure g c =
    let out = c.args.received.now.lists in
    let a = text_of (map no_line out.refused) in
    let b = text_of (map joined_line out.joined) in
    let d = text_of (map did_line c.args.journal.now) in
    let e = text_of (reply_lines c.args.slots.now c.args.replies.now) in
    let all = text_of (answer_lines out c.args.journal.now c.args.slots.now c.args.replies.now) in
    let is = text_of-answers (map no_line out.refused) (map joined_line out.joined) (map did_line c.args.journal.now) (reply_lines c.args.slots.now c.args.replies.now) in
    let begun = begins_printing g.K.Sink.taken g.K.Sink.faults g.K.Sink.room c.args.sink.now c.args.self.now all a (b ++ (d ++ (e ++ []))) is in
    let two = prints_more g.K.Sink.taken g.K.Sink.faults g.K.Sink.room _ _ _ _ _ _ a all (b ++ (d ++ (e ++ []))) begun (rw c.refused.ensures at c.in_ok-print_each.ensures.ok) in
    let three = prints_more g.K.Sink.taken g.K.Sink.faults g.K.Sink.room _ _ _ _ _ _ b all (d ++ (e ++ [])) two (rw c.joined.ensures at c.in_ok-print_each-2.ensures.ok) in
    let four = prints_more g.K.Sink.taken g.K.Sink.faults g.K.Sink.room _ _ _ _ _ _ d all (e ++ []) three c.in_ok-print_each-3.ensures.ok in
    λ fits. c.print_replies.ensures.sure (has_room g.K.Sink.taken g.K.Sink.faults g.K.Sink.room _ _ _ _ e all [] four fits)
