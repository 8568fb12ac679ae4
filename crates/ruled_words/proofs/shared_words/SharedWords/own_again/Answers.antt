use Rattle.std.proofs.Common.{Some, sym, ap, ◌∙◌, ℕ}
use Rattle.ruled_words.specs.Passes.{fixed_in}
use Rattle.ruled_words.proofs.LoadedWords.{again_next, again_whole}
use Rattle.ruled_words.proofs.shared_words.SharedWords.own_again.Goals as goal

pub load_player_words-requires-clause-next : goal.load_player_words-requires-clause-next
load_player_words-requires-clause-next g c κs within =
    again_next (fixed_in g.A.Action.meaning c.args.self.now) c.args.hand.now c.requires.at c.requires.none c.requires.own.plain ∙ ap (λ (n : ℕ). Some n) (sym c.requires.slot)

pub returns-clause-view : goal.returns-clause-view
returns-clause-view g c =
    c.load_player_words.ensures.pass ∙ again_whole (fixed_in g.A.Action.meaning c.args.self.now) c.args.hand.now c.requires.at c.requires.none c.requires.own.plain c.load_player_words.result c.load_player_words.ensures.six
