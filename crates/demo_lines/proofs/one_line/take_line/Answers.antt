use Rattle.std.proofs.Common.{sym, ap, ◌∙◌}
use Rattle.std.specs.Result.{result_ok}
use Rattle.demo_lines.specs.Known.{Reading, is_refused}
use Rattle.demo_lines.specs.Bytes.{refusal}
use Rattle.demo_lines.specs.Recording.{event_of}
use Rattle.demo_lines.specs.Said.{line_said, after_said}
use Rattle.demo_lines.proofs.OnePass.{next-short, events-short, not_refused}
use Rattle.demo_lines.proofs.one_line.take_line.Goals as goal

pub returns-in-Refused-clause-refused : goal.returns-in-Refused-clause-refused
returns-in-Refused-clause-refused c =
    let said = c.line_at-said.ensures.value ∙ ap (λ s. line_said s c.args.line.now) c.stage.ensures in
    let is_next = c.in_ok-take.ensures.next c.line_at-said.new.arrival ∙ ap (after_said c.args.reading.now) said ∙ sym (next-short c.args.reading.now c.args.line.now c.requires.open c.requires.fits) in
    rw c.refused.ensures
    (record { is_next = is_next; fault = c.in-Refused.why; stage = sym c.stage-2.ensures ∙ c.in-Refused.is; counted = ap (λ n. refusal n c.in-Refused.why) c.lines.ensures })

pub returns : goal.returns
returns c =
    let said = c.line_at-said.ensures.value ∙ ap (λ s. line_said s c.args.line.now) c.stage.ensures in
    let is_next = c.in_ok-take.ensures.next c.line_at-said.new.arrival ∙ ap (after_said c.args.reading.now) said ∙ sym (next-short c.args.reading.now c.args.line.now c.requires.open c.requires.fits) in
    let fine = ap is_refused (sym c.stage-2.ensures) ∙ not_refused c.stage-2.result c.in_default.not-Refused in
    let events = events-short c.args.reading.now c.args.line.now c.requires.open c.requires.fits (ap (λ (t : Reading). is_refused t.stage) (sym is_next) ∙ fine) in
    record {
      next = is_next;
      event = c.event_of.ensures c.line_at-said.new.arrival ∙ ap (λ said. event_of (result_ok said)) said ∙ sym events;
      goes_on = fine;
      refused = tt;
      memory = tt;
      no_fault = tt;
      holds = c.in_ok-take.ensures.holds;
      fewer = c.in_ok-take.ensures.fewer;
    }
