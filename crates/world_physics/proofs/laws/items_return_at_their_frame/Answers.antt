use Rattle.world_physics.proofs.Kept.{items_return_at_their_frame}
use Rattle.world_physics.proofs.laws.items_return_at_their_frame.Goals as goal

pub returns : goal.returns
returns c = items_return_at_their_frame
