use Rattle.std.proofs.Common.{◌+◌, length, refl, sym, ap, ◌∙◌, subst}
use Rattle.std.proofs.lemmas.List.{length-map}
use Rattle.entity_recs.specs.Commands.{command_of}
use Rattle.arena_actions.specs.MapActions.{map_in}
use Rattle.transcript_check.specs.Reading.{MayRead}
use Rattle.transcript_check.specs.Checkers.{CheckerView, with_input}
use Rattle.transcript_check.proofs.FrameTaken.{is-here, answers-missed, answers-looked, live-still, answers-taken}
use Rattle.transcript_check.proofs.checker.Checker.expect_answers.Goals as goal

pub expect_answers-requires-clause-valid : goal.expect_answers-requires-clause-valid
expect_answers-requires-clause-valid g c =
    (is-here c.args.self.now _ c.map.result.now c.args.arrivals.now _ c.self.view_is c.requires.is c.map.ensures.value c.receive.ensures.received).pass.state.fits.valid

pub expect_answers-requires-clause-live : goal.expect_answers-requires-clause-live
expect_answers-requires-clause-live g c =
    (is-here c.args.self.now _ c.map.result.now c.args.arrivals.now _ c.self.view_is c.requires.is c.map.ensures.value c.receive.ensures.received).pass.live

pub expect_answers-requires-clause-apart : goal.expect_answers-requires-clause-apart
expect_answers-requires-clause-apart g c =
    (is-here c.args.self.now _ c.map.result.now c.args.arrivals.now _ c.self.view_is c.requires.is c.map.ensures.value c.receive.ensures.received).pass.apart

pub expect_answers-requires-clause-few : goal.expect_answers-requires-clause-few
expect_answers-requires-clause-few g c =
    (is-here c.args.self.now _ c.map.result.now c.args.arrivals.now _ c.self.view_is c.requires.is c.map.ensures.value c.receive.ensures.received).few

pub expect_answers-requires-clause-may : goal.expect_answers-requires-clause-may
expect_answers-requires-clause-may g c = subst (λ (u : CheckerView). MayRead g.S.Source u.input c.args.source.now) (sym c.self.view_is) c.requires.may

pub returns-then-not-is_right-clause-missed : goal.returns-then-not-is_right-clause-missed
returns-then-not-is_right-clause-missed g c =
    let here = is-here c.args.self.now _ c.map.result.now c.args.arrivals.now _ c.self.view_is c.requires.is c.map.ensures.value c.receive.ensures.received in
    answers-missed g.S.Source c.args.source.now c.expect_answers.new.source c.args.self.now _ c.self.view_is c.args.arrivals.now _ here
    (rw c.if-not-is_right.true at c.in_ok-is_right.ensures.missed)

pub returns-then-not-is_right-clause-looked : goal.returns-then-not-is_right-clause-looked
returns-then-not-is_right-clause-looked g c =
    let here = is-here c.args.self.now _ c.map.result.now c.args.arrivals.now _ c.self.view_is c.requires.is c.map.ensures.value c.receive.ensures.received in
    answers-looked g.S.Source c.args.source.now c.expect_answers.new.source c.args.self.now _ c.self.view_is c.args.arrivals.now _ here (with_input c.args.self.now c.expect_answers.new.self.lines.input)
    (rw c.if-not-is_right.true at c.in_ok-is_right.ensures.looked)

pub finish-requires : goal.finish-requires
finish-requires g c =
    let here = is-here c.args.self.now _ c.map.result.now c.args.arrivals.now _ c.self.view_is c.requires.is c.map.ensures.value c.receive.ensures.received in
    live-still g.S.Source c.args.source.now c.expect_answers.new.source c.args.self.now _ c.self.view_is c.args.arrivals.now _ here _ _
    (rw c.if-not-is_right.false at c.in_ok-is_right.ensures.ok)

pub returns-clause-ok : goal.returns-clause-ok
returns-clause-ok g c =
    let here = is-here c.args.self.now _ c.map.result.now c.args.arrivals.now _ c.self.view_is c.requires.is c.map.ensures.value c.receive.ensures.received in
    answers-taken g.S.Source c.args.source.now c.expect_answers.new.source c.args.self.now _ c.self.view_is c.args.arrivals.now _ here _ _
    (rw c.if-not-is_right.false at c.in_ok-is_right.ensures.ok) _ c.requires.few (ap map_in c.in_ok-is_right.ensures.action) c.finish.ensures.finished refl
    (ap (λ n. c.self.inside.moves + n) (sym (length-map c.moves.result.now command_of) ∙ ap length c.moves.ensures)) refl
