use Rattle.demo_lines.proofs.MapRules.{names-err, names-some}
use Rattle.demo_lines.proofs.reading.add_to.Goals as goal

pub returns-in-Some-clause-rule : goal.returns-in-Some-clause-rule
returns-in-Some-clause-rule c = names-some c.add.result c.args.map.now c.in-Some.map c.args.line.now (c.in-Some.is) c.add.ensures.rule

pub returns-in-Err-clause-rule : goal.returns-in-Err-clause-rule
returns-in-Err-clause-rule c = names-err c.new.result c.args.map.now c.args.line.now c.in-Err.refusal c.in-None.is c.new.ensures.rule c.in-Err.is
