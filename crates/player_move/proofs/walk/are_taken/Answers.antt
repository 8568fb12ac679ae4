use Rattle.std.proofs.Common.{arith}
use Rattle.player_move.proofs.Rooms.{IsInRange-moved}
use Rattle.player_move.proofs.walk.are_taken.Goals as goal

pub shifted-there-requires : goal.shifted-there-requires
shifted-there-requires c =
    IsInRange-moved 2000000 65536 c.args.body.now c.args.stairs (omega arith) c.requires.room c.requires.stairs_near
