use Rattle.out_text.proofs.Outputs.{some_output}
use Rattle.out_text.proofs.laws.written_recordings_have_outputs.Goals as goal

pub returns : goal.returns
returns c = some_output
