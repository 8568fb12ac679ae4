use Rattle.core_steps.proofs.OneWord.{refused_takes_change_their_record}
use Rattle.core_steps.proofs.machine_laws.refused_takes_change_their_record.Goals as goal

pub returns : goal.returns
returns c = refused_takes_change_their_record
