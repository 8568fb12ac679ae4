use Rattle.areanode.proofs.LeafAreas.{leaves_lie_in_the_arena}
use Rattle.areanode.proofs.laws.leaves_lie_in_the_arena.Goals as goal

pub returns : goal.returns
returns c = leaves_lie_in_the_arena
