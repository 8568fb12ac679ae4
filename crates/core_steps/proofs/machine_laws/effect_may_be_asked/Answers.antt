use Rattle.core_steps.proofs.Asking.{effect_may_be_asked}
use Rattle.core_steps.proofs.machine_laws.effect_may_be_asked.Goals as goal

pub returns : goal.returns
returns c = effect_may_be_asked
