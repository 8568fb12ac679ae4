use Rattle.std.proofs.Common.{◌∷◌, [], IfOk, IfErr, sym, ap, subst}
use Rattle.std.specs.Bool.{OnTrue, OnFalse}
use Rattle.out_text.specs.OutLines.{printed_line}
use Rattle.out_text.specs.Printing.{line_of}
use Rattle.out_text.specs.Transcripts.{BeginsWith}
use Rattle.transcript_check.specs.Reading.{MayRead, ReadsLines, ReadsOneAtMost, Misses, ReadFails}
use Rattle.transcript_check.specs.Checkers.{CheckerView, with_input}
use Rattle.transcript_check.proofs.checker.Checker.expect.Goals as goal

pub expect-requires-clause-may : goal.expect-requires-clause-may
expect-requires-clause-may g c = subst (λ (u : CheckerView). MayRead g.S.Source u.input c.args.source.now) (sym c.self.view_is) c.requires.may

pub returns-clause-ok : goal.returns-clause-ok
returns-clause-ok g c =
    subst (λ (u : CheckerView). IfOk c.expect.result (λ is. OnTrue is (ReadsLines g.S.Source c.args.source.now c.expect.new.source u.input c.expect.new.self.input (line_of c.args.line.now ∷ [])))) c.self.view_is
    c.expect.ensures.ok

pub returns-clause-missed : goal.returns-clause-missed
returns-clause-missed g c =
    subst (λ (u : CheckerView). IfOk c.expect.result (λ is. OnFalse is (Misses g.S.Source c.args.source.now c.expect.new.source u.input (λ bytes. BeginsWith bytes (printed_line (line_of c.args.line.now)) → ⊥)))) c.self.view_is
    c.expect.ensures.missed

pub returns-clause-looked : goal.returns-clause-looked
returns-clause-looked g c =
    subst (λ (u : CheckerView). IfOk c.expect.result (λ is. OnFalse is (ReadsOneAtMost g.S.Source c.args.source.now c.expect.new.source u.input c.expect.new.self.input))) c.self.view_is c.expect.ensures.looked

pub returns-clause-err : goal.returns-clause-err
returns-clause-err g c = subst (λ (u : CheckerView). IfErr c.expect.result (ReadFails g.S.Source c.args.source.now c.expect.new.source u.input)) c.self.view_is c.expect.ensures.err

pub returns-clause-server : goal.returns-clause-server
returns-clause-server g c = ap (λ (u : CheckerView). with_input u c.expect.new.self.input) c.self.view_is
