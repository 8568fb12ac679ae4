use Rattle.arena_engine.proofs.Judging.{log-audited, audit-ends}
use Rattle.arena_engine.proofs.commands.audit.audit_log.Goals as goal

pub returns-clause-audited : goal.returns-clause-audited
returns-clause-audited g c =
    log-audited g.S.Source g.K.Sink c.args.source.now c.verdict_of-found.new.source c.args.sink.now c.report_found.new.sink c.report_found.result c.verdict_of-found.result
    c.report_found.ensures.found c.verdict_of-found.ensures.ok c.verdict_of-found.ensures.err

pub returns-clause-ends : goal.returns-clause-ends
returns-clause-ends g c =
    audit-ends g.S.Source g.K.Sink c.args.source.now c.verdict_of-found.new.source c.args.sink.now c.report_found.new.sink c.report_found.result c.verdict_of-found.result
    c.report_found.ensures.found c.verdict_of-found.ensures.ok c.verdict_of-found.ensures.err
