use Rattle.out_text.proofs.KeptRules.{have_maps}
use Rattle.out_text.proofs.laws.recordings_have_maps.Goals as goal

pub returns : goal.returns
returns c = have_maps
