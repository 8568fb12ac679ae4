-- What a pass has popped.
use Rattle.std.specs.Prelude.{◌≡◌, ℕ, List, Some}
use Rattle.crossbeam_queue.specs.Passes.{Pass, view}
use Rattle.feed_queue.specs.declared.hand.Hand.{Hand}

-- the pass has popped just these places, in this order
abbrev pub HasPopped : Pass ℕ Hand → List ℕ → Type 0
HasPopped pass places = (view pass).got ≡ Some places
