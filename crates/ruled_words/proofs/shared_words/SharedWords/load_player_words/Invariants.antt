use Rattle.std.proofs.Common.{◌≡◌, length, take}
use Rattle.ruled_words.specs.Passes.{fixed_in}
use Rattle.ruled_words.specs.Hands.{IsPlain}
use Rattle.ruled_words.specs.Loads.{IsLoading}
use Rattle.ruled_words.proofs.shared_words.SharedWords.load_player_words.Given as goal

abbrev pub invariant-loop-k : goal.invariant-loop-k
invariant-loop-k g l =
    IsLoading (fixed_in g.A.Action.meaning l.self) (length l.self.rooms) l.self.table l.fn.hand l.hand l.slot (take l.k l.words) × (length l.words ≡ 6) × IsPlain l.hand
