use Rattle.std.proofs.Common.{◌∙◌}
use Rattle.ruled_words.specs.Passes.{fixed_in}
use Rattle.ruled_words.proofs.PlainHands.{comes_next, index_next}
use Rattle.ruled_words.proofs.Claims.{held_is, held_after, commits_next, kind_commits}
use Rattle.ruled_words.proofs.shared_words.SharedWords.commit_claimed.Goals as goal

pub step_hand-requires-clause-comes : goal.step_hand-requires-clause-comes
step_hand-requires-clause-comes g c κs within = comes_next (fixed_in g.A.Action.meaning c.args.self.now) c.args.hand.now _ (held_is (fixed_in g.A.Action.meaning c.args.self.now) c.args.hand.now c.args.effect.now c.requires.own.plain c.requires.at c.requires.effect)

pub step_hand-requires-clause-index : goal.step_hand-requires-clause-index
step_hand-requires-clause-index g c κs within = c.from.ensures ∙ index_next (fixed_in g.A.Action.meaning c.args.self.now) c.args.hand.now _ (held_is (fixed_in g.A.Action.meaning c.args.self.now) c.args.hand.now c.args.effect.now c.requires.own.plain c.requires.at c.requires.effect) c.args.hand.now.view

pub step_hand-requires-clause-left : goal.step_hand-requires-clause-left
step_hand-requires-clause-left g c κs within = commits_next (fixed_in g.A.Action.meaning c.args.self.now) c.args.hand.now _ _ (held_is (fixed_in g.A.Action.meaning c.args.self.now) c.args.hand.now c.args.effect.now c.requires.own.plain c.requires.at c.requires.effect)

pub step_hand-requires-clause-may : goal.step_hand-requires-clause-may
step_hand-requires-clause-may g c κs within = c.from.ensures

pub returns-clause-view : goal.returns-clause-view
returns-clause-view g c = held_after (fixed_in g.A.Action.meaning c.args.self.now) c.args.hand.now c.args.effect.now c.requires.own.plain c.requires.at c.requires.effect c.step_hand.new.hand c.step_hand.result c.step_hand.ensures.pass

pub returns-clause-seen : goal.returns-clause-seen
returns-clause-seen g c = c.step_hand.ensures.seen (kind_commits (fixed_in g.A.Action.meaning c.args.self.now) c.args.hand.now _ _ (held_is (fixed_in g.A.Action.meaning c.args.self.now) c.args.hand.now c.args.effect.now c.requires.own.plain c.requires.at c.requires.effect))

pub returns-clause-small : goal.returns-clause-small
returns-clause-small g c = c.step_hand.ensures.small (kind_commits (fixed_in g.A.Action.meaning c.args.self.now) c.args.hand.now _ _ (held_is (fixed_in g.A.Action.meaning c.args.self.now) c.args.hand.now c.args.effect.now c.requires.own.plain c.requires.at c.requires.effect))
