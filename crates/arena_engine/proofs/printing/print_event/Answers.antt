use Rattle.std.proofs.Common.{◌≡◌, ◌+◌, ◌≤◌, List, [], ◌∷◌, ◌++◌, length, sym, subst}
use Rattle.out_text.specs.OutLines.{OutLine, EndLine, text_of}
use Rattle.out_text.specs.Printers.{Prints, FailsIn}
use Rattle.out_text.proofs.Buffering.{on_err, not_failed}
use Rattle.playback.specs.Playbacks.{entries_if}
use Rattle.arena_engine.specs.Games.{closed_lines, lines_if, due_lines}
use Rattle.arena_engine.proofs.Printed.{all_printed, fails_in_first, fails_in_second, fails_at_last, room_for_second, room_for_last, ok_then, err_then}
use Rattle.arena_engine.proofs.printing.print_event.Goals as goal

pub returns-in_err-print_closed-clause-err : goal.returns-in_err-print_closed-clause-err
returns-in_err-print_closed-clause-err g c =
    let xs = closed_lines c.args.order.now (entries_if c.args.closed.now) c.closed.result.now c.out.result.now in
    let ys = lines_if c.args.is_end (EndLine c.args.playback.now.course.server.frames ∷ []) in
    let is : xs ++ ys ≡ due_lines c.args.is_end c.args.order.now (entries_if c.args.closed.now) c.args.playback.now =
    λ i. closed_lines c.args.order.now (entries_if c.args.closed.now) (c.closed.ensures i) (c.out.ensures.out i) ++ ys in
    on_err _ _ (subst (λ (lines : List OutLine). FailsIn g.K.Sink.taken g.K.Sink.faults c.args.sink.now c.print_closed.new.sink (c.args.printer.now ++ text_of lines)) is
    (fails_in_first g.K.Sink.taken g.K.Sink.faults g.K.Sink.room xs ys _ _ _ c.in_err-print_closed.ensures.err))

pub returns-in_err-print_end-clause-err : goal.returns-in_err-print_end-clause-err
returns-in_err-print_end-clause-err g c =
    let xs = closed_lines c.args.order.now (entries_if c.args.closed.now) c.closed.result.now c.out.result.now in
    let ys = lines_if c.args.is_end (EndLine c.frames.result ∷ []) in
    let is : xs ++ ys ≡ due_lines c.args.is_end c.args.order.now (entries_if c.args.closed.now) c.args.playback.now =
    λ i. closed_lines c.args.order.now (entries_if c.args.closed.now) (c.closed.ensures i) (c.out.ensures.out i) ++ lines_if c.args.is_end (EndLine (c.frames.ensures i) ∷ []) in
    on_err _ _ (subst (λ (lines : List OutLine). FailsIn g.K.Sink.taken g.K.Sink.faults c.args.sink.now c.print_end.new.sink (c.args.printer.now ++ text_of lines)) is
    (fails_in_second g.K.Sink.taken g.K.Sink.faults g.K.Sink.room xs ys _ _ _ _ _ c.in_ok-print_closed.ensures.ok c.in_err-print_end.ensures.err))

pub returns-in_err-print_end-clause-sure : goal.returns-in_err-print_end-clause-sure
returns-in_err-print_end-clause-sure g c =
    let xs = closed_lines c.args.order.now (entries_if c.args.closed.now) c.closed.result.now c.out.result.now in
    let ys = lines_if c.args.is_end (EndLine c.frames.result ∷ []) in
    let is : due_lines c.args.is_end c.args.order.now (entries_if c.args.closed.now) c.args.playback.now ≡ xs ++ ys =
    λ i. closed_lines c.args.order.now (entries_if c.args.closed.now) (sym c.closed.ensures i) (sym c.out.ensures.out i) ++ lines_if c.args.is_end (EndLine (sym c.frames.ensures i) ∷ []) in
    λ fits. not_failed (c.in_err-print_end.ensures.sure (room_for_second g.K.Sink.taken g.K.Sink.faults g.K.Sink.room xs ys _ _ _ _ c.in_ok-print_closed.ensures.ok
    (subst (λ (lines : List OutLine). length c.args.printer.now + length (text_of lines) ≤ g.K.Sink.room c.args.sink.now) is fits)))

pub returns-clause-ok : goal.returns-clause-ok
returns-clause-ok g c =
    let xs = closed_lines c.args.order.now (entries_if c.args.closed.now) c.closed.result.now c.out.result.now in
    let ys = lines_if c.args.is_end (EndLine c.frames.result ∷ []) in
    let is : xs ++ ys ≡ due_lines c.args.is_end c.args.order.now (entries_if c.args.closed.now) c.args.playback.now =
    λ i. closed_lines c.args.order.now (entries_if c.args.closed.now) (c.closed.ensures i) (c.out.ensures.out i) ++ lines_if c.args.is_end (EndLine (c.frames.ensures i) ∷ []) in
    ok_then _ _ _ c.flush.ensures.ok (λ last. subst (λ (lines : List OutLine). Prints g.K.Sink.taken g.K.Sink.faults g.K.Sink.room c.args.sink.now c.flush.new.sink c.args.printer.now [] (text_of lines)) is
    (all_printed g.K.Sink.taken g.K.Sink.faults g.K.Sink.room xs ys _ _ _ _ _ _ _ c.in_ok-print_closed.ensures.ok c.in_ok-print_end.ensures.ok last))

pub returns-clause-err : goal.returns-clause-err
returns-clause-err g c =
    let xs = closed_lines c.args.order.now (entries_if c.args.closed.now) c.closed.result.now c.out.result.now in
    let ys = lines_if c.args.is_end (EndLine c.frames.result ∷ []) in
    let is : xs ++ ys ≡ due_lines c.args.is_end c.args.order.now (entries_if c.args.closed.now) c.args.playback.now =
    λ i. closed_lines c.args.order.now (entries_if c.args.closed.now) (c.closed.ensures i) (c.out.ensures.out i) ++ lines_if c.args.is_end (EndLine (c.frames.ensures i) ∷ []) in
    err_then _ _ _ c.flush.ensures.err (λ fails. subst (λ (lines : List OutLine). FailsIn g.K.Sink.taken g.K.Sink.faults c.args.sink.now c.flush.new.sink (c.args.printer.now ++ text_of lines)) is
    (fails_at_last g.K.Sink.taken g.K.Sink.faults g.K.Sink.room xs ys _ _ _ _ _ _ _ c.in_ok-print_closed.ensures.ok c.in_ok-print_end.ensures.ok fails))

pub returns-clause-sure : goal.returns-clause-sure
returns-clause-sure g c =
    let xs = closed_lines c.args.order.now (entries_if c.args.closed.now) c.closed.result.now c.out.result.now in
    let ys = lines_if c.args.is_end (EndLine c.frames.result ∷ []) in
    let is : due_lines c.args.is_end c.args.order.now (entries_if c.args.closed.now) c.args.playback.now ≡ xs ++ ys =
    λ i. closed_lines c.args.order.now (entries_if c.args.closed.now) (sym c.closed.ensures i) (sym c.out.ensures.out i) ++ lines_if c.args.is_end (EndLine (sym c.frames.ensures i) ∷ []) in
    λ fits. c.flush.ensures.sure (room_for_last g.K.Sink.taken g.K.Sink.faults g.K.Sink.room xs ys _ _ _ _ _ _ c.in_ok-print_closed.ensures.ok c.in_ok-print_end.ensures.ok
    (subst (λ (lines : List OutLine). length c.args.printer.now + length (text_of lines) ≤ g.K.Sink.room c.args.sink.now) is fits))
