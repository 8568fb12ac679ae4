use Rattle.std.proofs.Common.{◌≡◌}
use Rattle.core_steps.specs.Reads.{region_in}
use Rattle.ruled_words.specs.Hands.{IsOwnHand}
use Rattle.ruled_words.specs.Passes.{fixed_in}
use Rattle.ruled_words.proofs.StateSteps.{AreSensed}
use Rattle.ruled_words.proofs.shared_words.SharedWords.load_all.Given as goal

abbrev pub invariant-loop-thing : goal.invariant-loop-thing
invariant-loop-thing g l = record {
  own : IsOwnHand g.A.Action.meaning l.self l.hand;
  sensed : AreSensed (region_in (fixed_in g.A.Action.meaning l.self) l.initial.hand.view.cmd l.initial.hand.view.own) l.things l.initial.hand l.hand l.initial.near.items l.near.items l.thing-index;
  room : l.near.room ≡ l.initial.near.room;
}
