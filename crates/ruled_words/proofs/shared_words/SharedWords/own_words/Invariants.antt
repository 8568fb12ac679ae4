use Rattle.std.proofs.Common.{◌≡◌, length, take}
use Rattle.entity_recs.specs.Commands.{command_of}
use Rattle.ruled_words.specs.Hands.{IsOwnHand}
use Rattle.ruled_words.specs.Passes.{fixed_in}
use Rattle.ruled_words.proofs.LoadedWords.{own_at}
use Rattle.ruled_words.proofs.shared_words.SharedWords.own_words.Given as goal

abbrev pub invariant-loop-k : goal.invariant-loop-k
invariant-loop-k g l =
    IsOwnHand g.A.Action.meaning l.self l.hand × (l.hand ≡ own_at (fixed_in g.A.Action.meaning l.self) l.fn.hand (command_of l.cmd) (take l.k l.words)) × (length l.words ≡ 6)
