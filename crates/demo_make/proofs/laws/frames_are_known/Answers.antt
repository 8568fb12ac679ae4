use Rattle.demo_make.proofs.FramesKept.{frames_are_known}
use Rattle.demo_make.proofs.laws.frames_are_known.Goals as goal

pub returns : goal.returns
returns c = frames_are_known
