use Rattle.arena_engine.proofs.Judging.{transcript-checked, check-ends}
use Rattle.arena_engine.proofs.commands.check.check_transcript.Goals as goal

pub returns-clause-checked : goal.returns-clause-checked
returns-clause-checked g c =
    transcript-checked g.S.Source g.K.Sink c.args.source.now c.verdict_of-found.new.source c.args.sink.now c.report_found.new.sink c.report_found.result c.verdict_of-found.result
    c.report_found.ensures.found c.verdict_of-found.ensures.ok c.verdict_of-found.ensures.err

pub returns-clause-ends : goal.returns-clause-ends
returns-clause-ends g c =
    check-ends g.S.Source g.K.Sink c.args.source.now c.verdict_of-found.new.source c.args.sink.now c.report_found.new.sink c.report_found.result c.verdict_of-found.result
    c.report_found.ensures.found c.verdict_of-found.ensures.ok c.verdict_of-found.ensures.err
