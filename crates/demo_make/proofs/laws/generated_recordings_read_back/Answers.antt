use Rattle.demo_make.proofs.FramesKept.{generated_recordings_read_back}
use Rattle.demo_make.proofs.laws.generated_recordings_read_back.Goals as goal

pub returns : goal.returns
returns c = generated_recordings_read_back
