use Rattle.out_text.proofs.Outputs.{outputs_spell}
use Rattle.out_text.proofs.laws.outputs_spell_their_journals.Goals as goal

pub returns : goal.returns
returns c = outputs_spell
