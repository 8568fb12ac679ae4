use Rattle.std.proofs.Common.{sym, ap, ◌∙◌}
use Rattle.core_steps.specs.Encoding.{words_of}
use Rattle.core_seats.specs.Starts.{record_at}
use Rattle.core_machine.proofs.StartRecords.{found_record, no_record}
use Rattle.core_machine.proofs.start.body_at_start.Goals as goal

pub returns-in-Some : goal.returns-in-Some
returns-in-Some g c =
    let is = ap (record_at c.args.rules.now.start) (sym c.from.ensures) ∙ sym c.record.ensures ∙ c.in-Some.is in
    c.encode.ensures ∙ ap words_of (sym (found_record c.args.rules.now.start c.args.slot c.in-Some.r is))

pub returns-in-None : goal.returns-in-None
returns-in-None g c =
    let is = ap (record_at c.args.rules.now.start) (sym c.from.ensures) ∙ sym c.record.ensures ∙ c.in-None.is in
    ap words_of (sym (no_record c.args.rules.now.start c.args.slot is))
