use Rattle.core_steps.proofs.Asking.{loaded_record_is_taken}
use Rattle.core_steps.proofs.machine_laws.loaded_record_is_taken.Goals as goal

pub returns : goal.returns
returns c = loaded_record_is_taken
