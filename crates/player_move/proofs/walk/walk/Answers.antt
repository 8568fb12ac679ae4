use Rattle.std.proofs.Common.{arith}
use Rattle.player_move.proofs.Rooms.{IsInRange-moved}
use Rattle.player_move.proofs.Reaching.{IsNear-displacement, IsNear-slide}
use Rattle.player_move.proofs.Walking.{plain_where_flying, plain_without_side, stairs_taken, stairs_left}
use Rattle.player_move.proofs.walk.walk.Goals as goal
use Rattle.player_move.proofs.walk.walk.Goals.{then-not-walks-via-then-not-walks, then-not-walks-via-else-not-walks+then-not-plain}

pub slide-plain-requires-clause-in_range : goal.slide-plain-requires-clause-in_range
slide-plain-requires-clause-in_range c =
    IsInRange-moved 2000000 25600 c.args.body.now _ (omega arith) c.requires.room (IsNear-displacement c.args.vel c.args.ms c.requires.near c.requires.most)

pub returns-then-not-walks-clause-value : goal.returns-then-not-walks-clause-value
returns-then-not-walks-clause-value c =
    elim c.then-not-walks.branch [
      | then-not-walks-via-then-not-walks w ↦ plain_where_flying _ _ _ _ _ _ w.if-not-walks.true c.slide-plain.ensures.value
      | then-not-walks-via-else-not-walks+then-not-plain w ↦ plain_without_side _ _ _ _ _ _ w.if-not-plain.true c.slide-plain.ensures.value
    ]

pub returns-then-not-walks-clause-shift : goal.returns-then-not-walks-clause-shift
returns-then-not-walks-clause-shift c =
    IsNear-slide _ _ _ c.slide-plain.ensures.shift c.requires.near c.requires.most

pub returns-then-are_taken-clause-value : goal.returns-then-are_taken-clause-value
returns-then-are_taken-clause-value c =
    stairs_taken _ _ _ _ _ _ _ _ c.if-not-walks.false c.if-not-plain.false c.slide-plain.ensures.value c.stairs-stairs.ensures.value c.are_taken.ensures c.if-are_taken.true

pub returns-else-are_taken-clause-value : goal.returns-else-are_taken-clause-value
returns-else-are_taken-clause-value c =
    stairs_left _ _ _ _ _ _ _ _ c.slide-plain.ensures.value c.stairs-stairs.ensures.value c.are_taken.ensures c.if-are_taken.false

pub returns-else-are_taken-clause-shift : goal.returns-else-are_taken-clause-shift
returns-else-are_taken-clause-shift c =
    IsNear-slide _ _ _ c.slide-plain.ensures.shift c.requires.near c.requires.most
