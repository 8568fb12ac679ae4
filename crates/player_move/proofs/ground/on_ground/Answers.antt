use Rattle.player_move.proofs.Grounds.{ground_by_first, ground_by_second}
use Rattle.player_move.proofs.ground.on_ground.Goals as goal

pub returns-then-is_blocked : goal.returns-then-is_blocked
returns-then-is_blocked c =
    ground_by_first _ _ _ _ _ c.shifted-below.ensures c.is_blocked.ensures c.if-is_blocked.true

pub returns-else-is_blocked : goal.returns-else-is_blocked
returns-else-is_blocked c =
    ground_by_second _ _ _ _ _ _ c.shifted-below.ensures c.is_blocked.ensures c.if-is_blocked.false c.is_blocked-else-is_blocked.ensures
