use Rattle.std.proofs.Common.{◌++◌, [], ◌∷◌, map}
use Rattle.out_text.specs.OutLines.{FrameLine, printed_line, text_of}
use Rattle.out_text.specs.FrameLines.{answer_lines}
use Rattle.out_text.specs.Feeds.{from_line}
use Rattle.out_text.proofs.Buffering.{begins_printing, prints_more, prints_last, fails_at, fails_last, has_room, text_of-three, on_err, not_failed}
use Rattle.out_text.proofs.printer.Printer.print_fed_frame.Goals as goal

pub returns-in_err-print-clause-err : goal.returns-in_err-print-clause-err
returns-in_err-print-clause-err g c =
    let first = printed_line (FrameLine c.args.frame) in
    let froms = map from_line c.args.arrivals.now in
    let lines = answer_lines c.args.received.now.lists c.args.journal.now c.args.slots.now c.args.replies.now in
    let middle = text_of froms in
    let rest = text_of lines in
    let all = text_of (FrameLine c.args.frame ∷ (froms ++ lines)) in
    let begun = begins_printing g.K.Sink.taken g.K.Sink.faults g.K.Sink.room c.args.sink.now c.args.self.now all first (middle ++ (rest ++ [])) (text_of-three (FrameLine c.args.frame) froms lines) in
    on_err _ _ (fails_at g.K.Sink.taken g.K.Sink.faults g.K.Sink.room _ _ _ _ _ first all (middle ++ (rest ++ [])) begun c.in_err-print.ensures.err)

pub returns-in_err-print-clause-sure : goal.returns-in_err-print-clause-sure
returns-in_err-print-clause-sure g c =
    let first = printed_line (FrameLine c.args.frame) in
    let froms = map from_line c.args.arrivals.now in
    let lines = answer_lines c.args.received.now.lists c.args.journal.now c.args.slots.now c.args.replies.now in
    let middle = text_of froms in
    let rest = text_of lines in
    let all = text_of (FrameLine c.args.frame ∷ (froms ++ lines)) in
    let begun = begins_printing g.K.Sink.taken g.K.Sink.faults g.K.Sink.room c.args.sink.now c.args.self.now all first (middle ++ (rest ++ [])) (text_of-three (FrameLine c.args.frame) froms lines) in
    λ fits. not_failed (c.in_err-print.ensures.sure (has_room g.K.Sink.taken g.K.Sink.faults g.K.Sink.room _ _ _ _ first all (middle ++ (rest ++ [])) begun fits))

pub returns-in_err-print_each-clause-err : goal.returns-in_err-print_each-clause-err
returns-in_err-print_each-clause-err g c =
    let first = printed_line (FrameLine c.args.frame) in
    let froms = map from_line c.args.arrivals.now in
    let lines = answer_lines c.args.received.now.lists c.args.journal.now c.args.slots.now c.args.replies.now in
    let middle = text_of froms in
    let rest = text_of lines in
    let all = text_of (FrameLine c.args.frame ∷ (froms ++ lines)) in
    let begun = begins_printing g.K.Sink.taken g.K.Sink.faults g.K.Sink.room c.args.sink.now c.args.self.now all first (middle ++ (rest ++ [])) (text_of-three (FrameLine c.args.frame) froms lines) in
    let one = prints_more g.K.Sink.taken g.K.Sink.faults g.K.Sink.room _ _ _ _ _ _ first all (middle ++ (rest ++ [])) begun c.in_ok-print.ensures.ok in
    on_err _ _ (fails_at g.K.Sink.taken g.K.Sink.faults g.K.Sink.room _ _ _ _ _ middle all (rest ++ []) one c.in_err-print_each.ensures.err)

pub returns-in_err-print_each-clause-sure : goal.returns-in_err-print_each-clause-sure
returns-in_err-print_each-clause-sure g c =
    let first = printed_line (FrameLine c.args.frame) in
    let froms = map from_line c.args.arrivals.now in
    let lines = answer_lines c.args.received.now.lists c.args.journal.now c.args.slots.now c.args.replies.now in
    let middle = text_of froms in
    let rest = text_of lines in
    let all = text_of (FrameLine c.args.frame ∷ (froms ++ lines)) in
    let begun = begins_printing g.K.Sink.taken g.K.Sink.faults g.K.Sink.room c.args.sink.now c.args.self.now all first (middle ++ (rest ++ [])) (text_of-three (FrameLine c.args.frame) froms lines) in
    let one = prints_more g.K.Sink.taken g.K.Sink.faults g.K.Sink.room _ _ _ _ _ _ first all (middle ++ (rest ++ [])) begun c.in_ok-print.ensures.ok in
    λ fits. not_failed (c.in_err-print_each.ensures.sure (has_room g.K.Sink.taken g.K.Sink.faults g.K.Sink.room _ _ _ _ middle all (rest ++ []) one fits))

pub returns-clause-ok : goal.returns-clause-ok
returns-clause-ok g c =
    let first = printed_line (FrameLine c.args.frame) in
    let froms = map from_line c.args.arrivals.now in
    let lines = answer_lines c.args.received.now.lists c.args.journal.now c.args.slots.now c.args.replies.now in
    let middle = text_of froms in
    let rest = text_of lines in
    let all = text_of (FrameLine c.args.frame ∷ (froms ++ lines)) in
    let begun = begins_printing g.K.Sink.taken g.K.Sink.faults g.K.Sink.room c.args.sink.now c.args.self.now all first (middle ++ (rest ++ [])) (text_of-three (FrameLine c.args.frame) froms lines) in
    let one = prints_more g.K.Sink.taken g.K.Sink.faults g.K.Sink.room _ _ _ _ _ _ first all (middle ++ (rest ++ [])) begun c.in_ok-print.ensures.ok in
    let two = prints_more g.K.Sink.taken g.K.Sink.faults g.K.Sink.room _ _ _ _ _ _ middle all (rest ++ []) one c.in_ok-print_each.ensures.ok in
    prints_last g.K.Sink.taken g.K.Sink.faults g.K.Sink.room _ _ _ _ _ _ _ rest all two c.print_answers.ensures.ok

pub returns-clause-err : goal.returns-clause-err
returns-clause-err g c =
    let first = printed_line (FrameLine c.args.frame) in
    let froms = map from_line c.args.arrivals.now in
    let lines = answer_lines c.args.received.now.lists c.args.journal.now c.args.slots.now c.args.replies.now in
    let middle = text_of froms in
    let rest = text_of lines in
    let all = text_of (FrameLine c.args.frame ∷ (froms ++ lines)) in
    let begun = begins_printing g.K.Sink.taken g.K.Sink.faults g.K.Sink.room c.args.sink.now c.args.self.now all first (middle ++ (rest ++ [])) (text_of-three (FrameLine c.args.frame) froms lines) in
    let one = prints_more g.K.Sink.taken g.K.Sink.faults g.K.Sink.room _ _ _ _ _ _ first all (middle ++ (rest ++ [])) begun c.in_ok-print.ensures.ok in
    let two = prints_more g.K.Sink.taken g.K.Sink.faults g.K.Sink.room _ _ _ _ _ _ middle all (rest ++ []) one c.in_ok-print_each.ensures.ok in
    fails_last g.K.Sink.taken g.K.Sink.faults g.K.Sink.room _ _ _ _ _ _ rest all two c.print_answers.ensures.err

pub returns-clause-sure : goal.returns-clause-sure
returns-clause-sure g c =
    let first = printed_line (FrameLine c.args.frame) in
    let froms = map from_line c.args.arrivals.now in
    let lines = answer_lines c.args.received.now.lists c.args.journal.now c.args.slots.now c.args.replies.now in
    let middle = text_of froms in
    let rest = text_of lines in
    let all = text_of (FrameLine c.args.frame ∷ (froms ++ lines)) in
    let begun = begins_printing g.K.Sink.taken g.K.Sink.faults g.K.Sink.room c.args.sink.now c.args.self.now all first (middle ++ (rest ++ [])) (text_of-three (FrameLine c.args.frame) froms lines) in
    let one = prints_more g.K.Sink.taken g.K.Sink.faults g.K.Sink.room _ _ _ _ _ _ first all (middle ++ (rest ++ [])) begun c.in_ok-print.ensures.ok in
    let two = prints_more g.K.Sink.taken g.K.Sink.faults g.K.Sink.room _ _ _ _ _ _ middle all (rest ++ []) one c.in_ok-print_each.ensures.ok in
    λ fits. c.print_answers.ensures.sure (has_room g.K.Sink.taken g.K.Sink.faults g.K.Sink.room _ _ _ _ rest all [] two fits)
