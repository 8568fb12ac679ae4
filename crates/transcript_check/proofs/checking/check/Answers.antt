use Rattle.std.proofs.Common.{◌≡◌, List, length, Some, Vec, Global, sym, ap, ◌∙◌, subst, arith}
use Rattle.std.specs.List.{AllByRecursion}
use Rattle.std.proofs.lemmas.List.{length-map}
use Rattle.std.proofs.lemmas.Result.{IfErr-weaker}
use Rattle.edge_io.specs.Lines.{ahead}
use Rattle.packet_read.specs.declared.arrival.Arrival.{Arrival}
use Rattle.demo_lines.specs.Reads.{DemoReaderView, map_taken}
use Rattle.demo_lines.specs.Rest.{HasRest}
use Rattle.transcript_check.specs.Checkers.{CheckerView, new_checker}
use Rattle.transcript_check.specs.Verdicts.{IsShort, Judges}
use Rattle.transcript_check.proofs.HeldLines.{free-ahead}
use Rattle.transcript_check.proofs.NextFrames.{if_ok-both}
use Rattle.transcript_check.proofs.Judged.{read-few, read-short, read-judged, stops-comparing}
use Rattle.transcript_check.proofs.checking.check.Goals as goal

pub compare-requires-clause-few : goal.compare-requires-clause-few
compare-requires-clause-few g c =
    let items : Vec Arrival Global → List Arrival = λ v. v.items in
    let few = read-few g.S.Source c.args.reader.reading.limit c.args.source.now c.read_recording.new.source c.read_recording.new.reader c.in_ok-recorded.recorded c.in_ok-recorded.ensures.ok c.requires.limit in
    let same = sym (length-map c.frames.result.now items) ∙ ap length c.frames.ensures in
    omega (arith, few, same)

pub compare-requires-clause-short : goal.compare-requires-clause-short
compare-requires-clause-short g c =
    subst (AllByRecursion IsShort) (sym c.frames.ensures)
    (read-short g.S.Source c.args.reader.reading.limit c.args.source.now c.read_recording.new.source c.read_recording.new.reader c.in_ok-recorded.recorded c.in_ok-recorded.ensures.ok)

pub compare-requires-clause-new : goal.compare-requires-clause-new
compare-requires-clause-new g c =
    let checker = c.in_ok-checker.checker in
    let new = c.in_ok-checker.ensures.checker in
    subst (λ m. checker ≡ new_checker m checker.input) (sym (ap (λ (u : CheckerView). u.map) new)) new

pub compare-requires-clause-may : goal.compare-requires-clause-may
compare-requires-clause-may g c =
    let demo_is : c.in_ok-checker.checker.input.demo ≡ map_taken c.read_recording.new.reader = c.in_ok-checker.ensures.demo ∙ c.take_map.ensures.rest in
    let read = c.in_ok-recorded.ensures.ok in
    record {
      over = ap (λ (demo : DemoReaderView). demo.reading.stage) demo_is ∙ read.ended;
      rest = subst (HasRest c.in_ok-checker.checker.input.demo) (sym (free-ahead c.in_ok-checker.checker.input.held _ _ _ c.in_ok-checker.ensures.held))
          (subst (λ (demo : DemoReaderView). HasRest demo (ahead demo.pending (g.S.Source.left c.read_recording.new.source))) (sym demo_is)
          (record { no_stop = read.may.no_stop; at_end = read.may.at_end }));
    }

pub returns-clause-ok : goal.returns-clause-ok
returns-clause-ok g c =
    let demo = c.read_recording.new.reader in
    let checker = c.in_ok-checker.checker in
    let demo_is : checker.input.demo ≡ map_taken demo = c.in_ok-checker.ensures.demo ∙ c.take_map.ensures.rest in
    let map_is = sym c.take_map.ensures.map ∙ c.unwrap-map.ensures ∙ ap Some (sym (ap (λ (u : CheckerView). u.map) c.in_ok-checker.ensures.checker)) in
    if_ok-both c.compare.result _ _ (Judges g.S.Source c.args.reader.reading.limit c.args.source.now c.compare.new.source) c.compare.ensures.ok c.compare.ensures.looked
    (λ verdict missed looks. read-judged g.S.Source c.args.reader.reading.limit c.args.source.now c.read_recording.new.source demo c.in_ok-recorded.recorded c.in_ok-recorded.ensures.ok
    c.compare.new.source checker.input c.compare.new.checker.input checker.map demo_is c.in_ok-checker.ensures.held map_is verdict (rw c.frames.ensures at (rw c.end_line-before.ensures at missed)) (rw c.frames.ensures at looks))

pub returns-clause-err : goal.returns-clause-err
returns-clause-err g c =
    let demo = c.read_recording.new.reader in
    let checker = c.in_ok-checker.checker in
    let demo_is : checker.input.demo ≡ map_taken demo = c.in_ok-checker.ensures.demo ∙ c.take_map.ensures.rest in
    IfErr-weaker c.compare.result _ _
    (λ stop fails. stops-comparing g.S.Source c.args.reader.reading.limit c.args.source.now c.read_recording.new.source c.compare.new.source demo checker.input
    c.in_ok-recorded.recorded stop demo_is c.in_ok-recorded.ensures.ok fails)
    c.compare.ensures.err
