use Rattle.trigger_rules.proofs.Gaining.{gems_kept}
use Rattle.trigger_rules.proofs.laws.no_gem_is_lost.Goals as goal

pub returns : goal.returns
returns c = gems_kept
