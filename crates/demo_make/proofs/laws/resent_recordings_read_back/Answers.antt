use Rattle.demo_make.proofs.ResentKept.{resent-back}
use Rattle.demo_make.proofs.laws.resent_recordings_read_back.Goals as goal

pub returns : goal.returns
returns c = resent-back
