use Rattle.std.proofs.Common.{◌≡◌, ℕ, Some, sym, ap, ◌∙◌, subst}
use Rattle.std.proofs.lemmas.Result.{IfErr-weaker}
use Rattle.edge_io.specs.Lines.{ahead}
use Rattle.demo_lines.specs.Reads.{DemoReaderView, map_taken}
use Rattle.demo_lines.specs.Rest.{HasRest}
use Rattle.transcript_check.specs.Audits.{JudgesLog}
use Rattle.transcript_check.specs.Checkers.{CheckerView, new_checker}
use Rattle.transcript_check.specs.Verdicts.{StopsChecking}
use Rattle.transcript_check.proofs.HeldLines.{free-ahead}
use Rattle.transcript_check.proofs.NextFrames.{if_ok-both}
use Rattle.transcript_check.proofs.Judged.{read-log-judged, stops-comparing}
use Rattle.transcript_check.proofs.auditing.audit.Goals as goal

pub compare_log-requires-clause-new : goal.compare_log-requires-clause-new
compare_log-requires-clause-new g c =
    let checker = c.in_ok-checker.checker in
    let new = c.in_ok-checker.ensures.checker in
    subst (λ m. checker ≡ new_checker m checker.input) (sym (ap (λ (u : CheckerView). u.map) new)) new

pub compare_log-requires-clause-may : goal.compare_log-requires-clause-may
compare_log-requires-clause-may g c =
    let demo_is : c.in_ok-checker.checker.input.demo ≡ map_taken c.read_recording.new.reader = c.in_ok-checker.ensures.demo ∙ c.take_map.ensures.rest in
    let read = c.in_ok-_recorded.ensures.ok in
    record {
      over = ap (λ (demo : DemoReaderView). demo.reading.stage) demo_is ∙ read.ended;
      rest = subst (HasRest c.in_ok-checker.checker.input.demo) (sym (free-ahead c.in_ok-checker.checker.input.held _ _ _ c.in_ok-checker.ensures.held))
          (subst (λ (demo : DemoReaderView). HasRest demo (ahead demo.pending (g.S.Source.left c.read_recording.new.source))) (sym demo_is)
          (record { no_stop = read.may.no_stop; at_end = read.may.at_end }));
    }

pub returns-clause-ok : goal.returns-clause-ok
returns-clause-ok g c =
    let demo = c.read_recording.new.reader in
    let checker = c.in_ok-checker.checker in
    let demo_is : checker.input.demo ≡ map_taken demo = c.in_ok-checker.ensures.demo ∙ c.take_map.ensures.rest in
    let map_is = sym c.take_map.ensures.map ∙ c.unwrap-map.ensures ∙ ap Some (sym (ap (λ (u : CheckerView). u.map) c.in_ok-checker.ensures.checker)) in
    let none = ap (λ (d : DemoReaderView). d.reading.limit) c.requires.fresh in
    if_ok-both c.compare_log.result _ _ (JudgesLog g.S.Source c.args.source.now c.compare_log.new.source) c.compare_log.ensures.ok c.compare_log.ensures.looked
    (λ verdict missed looks. read-log-judged g.S.Source c.args.reader.reading.limit c.args.source.now c.read_recording.new.source demo c.in_ok-_recorded._recorded c.in_ok-_recorded.ensures.ok
    c.compare_log.new.source checker.input c.compare_log.new.checker.input checker.map demo_is c.in_ok-checker.ensures.held map_is verdict none (rw c.end_line-before.ensures at missed) looks)

pub returns-clause-err : goal.returns-clause-err
returns-clause-err g c =
    let demo = c.read_recording.new.reader in
    let checker = c.in_ok-checker.checker in
    let demo_is : checker.input.demo ≡ map_taken demo = c.in_ok-checker.ensures.demo ∙ c.take_map.ensures.rest in
    let none = ap (λ (d : DemoReaderView). d.reading.limit) c.requires.fresh in
    IfErr-weaker c.compare_log.result _ _
    (λ stop fails. subst (λ (n : ℕ). StopsChecking g.S.Source n c.args.source.now c.compare_log.new.source stop) none
    (stops-comparing g.S.Source c.args.reader.reading.limit c.args.source.now c.read_recording.new.source c.compare_log.new.source demo checker.input
    c.in_ok-_recorded._recorded stop demo_is c.in_ok-_recorded.ensures.ok fails))
    c.compare_log.ensures.err
