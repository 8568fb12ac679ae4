use Rattle.std.proofs.Common.{◌≡◌, ℕ, ◌≤◌, List, [], ◌++◌, length, Option, sym, ap, ◌∙◌, subst, arith}
use Rattle.std.proofs.lemmas.Result.{err_from_is_err_and}
use Rattle.move_journal.specs.Logs.{JournalView}
use Rattle.out_text.specs.OutLines.{OutLine, text_of}
use Rattle.out_text.specs.Printers.{Prints, FailsIn}
use Rattle.out_text.proofs.Buffering.{not_failed}
use Rattle.playback.specs.Playbacks.{entries_if, IsReady}
use Rattle.demo_lines.specs.Kinds.{event_of_kind}
use Rattle.arena_engine.specs.Games.{GameView, newest_journal, newest_order, due_lines, IsReadyFor, PutsInOrderFor}
use Rattle.arena_engine.proofs.PutInOrder.{ready_for, ready_then}
use Rattle.arena_engine.proofs.Closing.{plays}
use Rattle.arena_engine.proofs.game.Game.take.Goals as goal

pub arrange_for-requires-after_bounds : goal.arrange_for-requires-after_bounds
arrange_for-requires-after_bounds g c κs within =
    subst (λ (v : GameView). IsReadyFor v.course c.args.kind) (sym c.self.view_is) (ready_for c.args.self.now.course c.args.kind c.args.arrival.now c.requires)

pub take_kind-requires-after_bounds : goal.take_kind-requires-after_bounds
take_kind-requires-after_bounds g c κs within =
    let old = c.self.inside in
    ready_then c.args.feeding c.args.kind c.args.arrival.now old.playback.course c.arrange_for.new.playback.course c.in_ok-order.order c.in_ok-order.ensures (subst (λ (v : GameView). IsReady v.course (event_of_kind c.args.kind c.args.arrival.now)) (sym c.self.view_is) c.requires)

pub returns-clause-next : goal.returns-clause-next
returns-clause-next g c =
    let old = c.self.inside in
    let journal = entries_if c.in_ok-closed.closed in
    let order = c.in_ok-order.order in
    let course = c.arrange_for.new.playback.course in
    let P : List OutLine → Type 0 = λ lines. Prints g.K.Sink.taken g.K.Sink.faults g.K.Sink.room c.args.sink.now c.print_event-printed.new.sink [] [] (text_of lines) in
    let puts = subst (λ (v : GameView). PutsInOrderFor c.args.feeding c.args.kind v.course course order) c.self.view_is c.in_ok-order.ensures in
    let order_is = c.newest_order.ensures ∙ ap (λ (o : Option (List ℕ)). newest_order journal order o) c.take.ensures.value ∙ ap (λ (v : GameView). newest_order journal order v.last.order) c.self.view_is in
    let journal_is = c.newest_journal.ensures ∙ ap (λ (o : Option JournalView). newest_journal journal (entries_if o)) c.take-2.ensures.value ∙ ap (λ (v : GameView). newest_journal journal v.last.journal) c.self.view_is in
    let prints = subst (λ (p : List ℕ). Prints g.K.Sink.taken g.K.Sink.faults g.K.Sink.room c.args.sink.now c.print_event-printed.new.sink p [] (text_of (due_lines c.is_end-ends.result order journal c.take_kind.new.self))) c.self.invariant c.in_ok-printed.ensures.ok in
    plays c.args.feeding c.args.host.now.workers c.args.self.now course c.take_kind.new.self _ c.args.kind c.args.arrival.now order journal c.is_end-ends.result P
    puts c.in_ok-closed.ensures.next c.in_ok-closed.ensures.given c.in_ok-closed.ensures.packets order_is journal_is (c.is_end-ends.ensures c.args.arrival.now) prints

pub returns-in_err-printed-clause-write_fault : goal.returns-in_err-printed-clause-write_fault
returns-in_err-printed-clause-write_fault g c =
    let old = c.self.inside in
    let journal = entries_if c.in_ok-closed.closed in
    let order = c.in_ok-order.order in
    let course = c.arrange_for.new.playback.course in
    let P : List OutLine → Type 0 = λ lines. FailsIn g.K.Sink.taken g.K.Sink.faults c.args.sink.now c.print_event-printed.new.sink (text_of lines) in
    let puts = subst (λ (v : GameView). PutsInOrderFor c.args.feeding c.args.kind v.course course order) c.self.view_is c.in_ok-order.ensures in
    let order_is = c.newest_order.ensures ∙ ap (λ (o : Option (List ℕ)). newest_order journal order o) c.take.ensures.value ∙ ap (λ (v : GameView). newest_order journal order v.last.order) c.self.view_is in
    let journal_is = c.newest_journal.ensures ∙ ap (λ (o : Option JournalView). newest_journal journal (entries_if o)) c.take-2.ensures.value ∙ ap (λ (v : GameView). newest_journal journal v.last.journal) c.self.view_is in
    let fails = subst (λ (q : List ℕ). FailsIn g.K.Sink.taken g.K.Sink.faults c.args.sink.now c.print_event-printed.new.sink (q ++ text_of (due_lines c.is_end-ends.result order journal c.take_kind.new.self))) c.self.invariant c.in_err-printed.ensures.err in
    let p = err_from_is_err_and c.from_residual-in_err-printed.result c.from_residual-in_err-printed.ensures.1 in
    rw (p.1, p.2)
    (plays c.args.feeding c.args.host.now.workers c.args.self.now course c.take_kind.new.self _ c.args.kind c.args.arrival.now order journal c.is_end-ends.result P
    puts c.in_ok-closed.ensures.next c.in_ok-closed.ensures.given c.in_ok-closed.ensures.packets order_is journal_is (c.is_end-ends.ensures c.args.arrival.now) fails)

pub returns-in_err-printed-clause-sure : goal.returns-in_err-printed-clause-sure
returns-in_err-printed-clause-sure g c =
    let old = c.self.inside in
    let journal = entries_if c.in_ok-closed.closed in
    let order = c.in_ok-order.order in
    let course = c.arrange_for.new.playback.course in
    let P : List OutLine → Type 0 = λ lines. length (text_of lines) ≤ g.K.Sink.room c.args.sink.now → ⊥ in
    let puts = subst (λ (v : GameView). PutsInOrderFor c.args.feeding c.args.kind v.course course order) c.self.view_is c.in_ok-order.ensures in
    let order_is = c.newest_order.ensures ∙ ap (λ (o : Option (List ℕ)). newest_order journal order o) c.take.ensures.value ∙ ap (λ (v : GameView). newest_order journal order v.last.order) c.self.view_is in
    let journal_is = c.newest_journal.ensures ∙ ap (λ (o : Option JournalView). newest_journal journal (entries_if o)) c.take-2.ensures.value ∙ ap (λ (v : GameView). newest_journal journal v.last.journal) c.self.view_is in
    let none : length old.printer ≡ 0 = ap length c.self.invariant in
    let p = err_from_is_err_and c.from_residual-in_err-printed.result c.from_residual-in_err-printed.ensures.1 in
    rw (p.1, p.2)
    (plays c.args.feeding c.args.host.now.workers c.args.self.now course c.take_kind.new.self _ c.args.kind c.args.arrival.now order journal c.is_end-ends.result P
    puts c.in_ok-closed.ensures.next c.in_ok-closed.ensures.given c.in_ok-closed.ensures.packets order_is journal_is (c.is_end-ends.ensures c.args.arrival.now)
    (λ fits. not_failed (c.in_err-printed.ensures.sure (omega (arith, fits, none)))))
