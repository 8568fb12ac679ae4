use Rattle.std.proofs.Common.{◌≡◌, ◌≤◌, ◌-◌, length}
use Rattle.ruled_words.specs.Hands.{IsOwnHand}
use Rattle.ruled_words.proofs.StateSteps.{AreSensed}
use Rattle.ruled_words.proofs.shared_words.SharedWords.load_touched.Given as goal

abbrev pub invariant-loop-place : goal.invariant-loop-place
invariant-loop-place g l = record {
  own : IsOwnHand g.A.Action.meaning l.self l.hand;
  sensed : AreSensed l.region l.things l.initial.hand l.hand l.initial.near.items l.near.items l.at;
  room : l.near.room ≡ l.initial.near.room;
  within : l.at ≤ length l.things;
}

abbrev pub decreases-loop-place : goal.decreases-loop-place
decreases-loop-place g l = length l.things - l.at
