use Rattle.world_physics.proofs.Clear.{players_keep_room}
use Rattle.world_physics.proofs.laws.players_keep_room.Goals as goal

pub returns : goal.returns
returns c = players_keep_room
