use Rattle.std.proofs.Common.{sym, ap, ◌∙◌}
use Rattle.entity_recs.specs.Commands.{Command, command_of}
use Rattle.arena_actions.specs.MapActions.{map_in}
use Rattle.plain_server.specs.Moving.{HasLivePlayer}
use Rattle.out_text.specs.OutLines.{line_spelling}
use Rattle.transcript_check.specs.Reading.{InputView}
use Rattle.transcript_check.specs.Moves.{move_line}
use Rattle.transcript_check.proofs.Texts.{on_false-weaker}
use Rattle.transcript_check.proofs.Turns.{next-has}
use Rattle.transcript_check.proofs.MovesRead.{one-next, no-next, same-report}
use Rattle.transcript_check.proofs.comparison.Comparison.is_next_move.Goals as goal

pub returns-in_default-clause-missed : goal.returns-in_default-clause-missed
returns-in_default-clause-missed c = λ c' left next is same.
    let some = c.reported.ensures.only _ is.in_range same in
    let never = sym c.in_default.is ∙ some in
    cc

pub returns-in_default-take_first_of-clause-missed : goal.returns-in_default-take_first_of-clause-missed
returns-in_default-take_first_of-clause-missed c = λ c' left next is same.
    let report = same-report c.reported.result c.in-Some.reported c'.slot c'.seq c.in-Some.is (c.reported.ensures.only _ is.in_range same) in
    no-next c.in-Some.reported.slot c.args.self.now.pending c' left (c.take_first_of.ensures.none c.in_default-take_first_of.is) next (sym report.slot_is)

pub returns-then-cmd-reported-clause-missed : goal.returns-then-cmd-reported-clause-missed
returns-then-cmd-reported-clause-missed c = λ c' left next is same.
    let report = same-report c.reported.result c.in-Some.reported c'.slot c'.seq c.in-Some.is (c.reported.ensures.only _ is.in_range same) in
    let cmd = c.in-Some-take_first_of.cmd in
    let one = one-next c.args.self.now.pending (command_of cmd) c' _ left c.in-Some-take_first_of.ensures.some next (c.in-Some-take_first_of.ensures.slot ∙ report.slot_is) in
    c.if-cmd-reported.true (ap (λ (d : Command). d.seq) one.command ∙ sym report.seq_is)

pub run_for_line-line-requires-clause-live : goal.run_for_line-line-requires-clause-live
run_for_line-line-requires-clause-live c =
    (next-has (HasLivePlayer c.args.world.now.records) c.args.self.now.pending (command_of c.in-Some-take_first_of.cmd) _ c.in-Some-take_first_of.ensures.some c.requires.live).0

pub returns-clause-missed : goal.returns-clause-missed
returns-clause-missed c =
    on_false-weaker c.is_given.result _ _ c.is_given.ensures.other
    (λ other c' left next is same.
    let report = same-report c.reported.result c.in-Some.reported c'.slot c'.seq c.in-Some.is (c.reported.ensures.only _ is.in_range same) in
    let cmd = c.in-Some-take_first_of.cmd in
    let one = one-next c.args.self.now.pending (command_of cmd) c' _ left c.in-Some-take_first_of.ensures.some next (c.in-Some-take_first_of.ensures.slot ∙ report.slot_is) in
    other (ap (λ (i : InputView). i.given) c.reported.ensures.input ∙ same
    ∙ ap (λ (d : Command). line_spelling (move_line (map_in c.args.self.now.mover.action) c.args.world.now.records d)) (sym one.command)
    ∙ ap line_spelling (sym c.run_for_line-line.ensures.line)))
