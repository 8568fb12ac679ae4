use Rattle.rule_trials.proofs.StartWorlds.{opened}
use Rattle.rule_trials.proofs.tests.ticks.opening.Goals as goal

pub returns : goal.returns
returns c = opened c.args.map.now c.entities.result.now c.new.result c.entities.ensures.rules c.entities.ensures.value c.new.ensures.records
