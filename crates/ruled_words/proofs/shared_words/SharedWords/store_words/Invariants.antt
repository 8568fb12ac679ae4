use Rattle.std.proofs.Common.{◌++◌, drop, length}
use Rattle.core_steps.specs.Points.{body_stores}
use Rattle.ruled_words.specs.Passes.{fixed_in}
use Rattle.ruled_words.specs.Writing.{owed_beyond}
use Rattle.ruled_words.proofs.StoresMade.{HasStored}
use Rattle.ruled_words.proofs.shared_words.SharedWords.store_words.Given as goal

abbrev pub invariant-loop-k : goal.invariant-loop-k
invariant-loop-k g l =
    HasStored (fixed_in g.A.Action.meaning l.self) (length l.self.rooms) l.self.table l.fn.hand l.hand (body_stores l.slot l.k (drop l.k l.words) ++ owed_beyond 5 l.fn.hand.view.point)
