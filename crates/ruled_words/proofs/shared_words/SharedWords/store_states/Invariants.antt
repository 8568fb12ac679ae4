use Rattle.std.proofs.Common.{◌++◌, drop, length, map}
use Rattle.ruled_words.specs.Passes.{fixed_in}
use Rattle.ruled_words.specs.Writing.{owed_beyond, state_store}
use Rattle.ruled_words.proofs.StoresMade.{HasStored}
use Rattle.ruled_words.proofs.shared_words.SharedWords.store_states.Given as goal

abbrev pub invariant-loop-new_state : goal.invariant-loop-new_state
invariant-loop-new_state g l =
    HasStored (fixed_in g.A.Action.meaning l.self) (length l.self.rooms) l.self.table l.fn.hand l.hand (map state_store (drop l.new_state-index l.states) ++ owed_beyond (length l.states) l.fn.hand.view.point)
