use Rattle.box_trace.proofs.HavingWalls.{have_walls_first}
use Rattle.arena_map.proofs.laws.solids_have_walls.Goals as goal

pub returns : goal.returns
returns c = λ map. have_walls_first map.bounds map.blocks
