use Rattle.demo_walk.proofs.FramesKept.{walks_read_back}
use Rattle.demo_walk.proofs.laws.walks_read_back.Goals as goal

pub returns : goal.returns
returns c = walks_read_back
