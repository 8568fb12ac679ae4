use Rattle.std.proofs.Common.{◌∙◌, length}
use Rattle.ruled_words.specs.Passes.{fixed_in}
use Rattle.ruled_words.specs.Hands.{pass_keeping}
use Rattle.ruled_words.proofs.Owns.{resolved_own}
use Rattle.ruled_words.proofs.PlainHands.{comes_next, index_next}
use Rattle.ruled_words.proofs.Claims.{dropped_own, free_is, free_after, commits_next, kind_commits}
use Rattle.ruled_words.proofs.shared_words.SharedWords.commit_free.Goals as goal

pub step_resolved-place-requires-clause-own : goal.step_resolved-place-requires-clause-own
step_resolved-place-requires-clause-own g c κs within = resolved_own (fixed_in g.A.Action.meaning c.args.self.now) (length c.args.self.now.rooms) c.args.self.now.table c.args.hand.now c.args.effect.now c.requires.own.pass c.requires.at c.requires.effect

pub step_resolved-place-requires-clause-comes : goal.step_resolved-place-requires-clause-comes
step_resolved-place-requires-clause-comes g c κs within = comes_next (fixed_in g.A.Action.meaning c.args.self.now) (pass_keeping c.args.hand.now c.args.effect.now) _ (free_is (fixed_in g.A.Action.meaning c.args.self.now) c.args.hand.now c.args.effect.now c.requires.own.plain c.requires.at c.requires.none)

pub step_resolved-place-requires-clause-index : goal.step_resolved-place-requires-clause-index
step_resolved-place-requires-clause-index g c κs within =
    c.from.ensures ∙ index_next (fixed_in g.A.Action.meaning c.args.self.now) (pass_keeping c.args.hand.now c.args.effect.now) _ (free_is (fixed_in g.A.Action.meaning c.args.self.now) c.args.hand.now c.args.effect.now c.requires.own.plain c.requires.at c.requires.none) c.args.hand.now.view

pub step_resolved-place-requires-clause-left : goal.step_resolved-place-requires-clause-left
step_resolved-place-requires-clause-left g c κs within = commits_next (fixed_in g.A.Action.meaning c.args.self.now) (pass_keeping c.args.hand.now c.args.effect.now) _ _ (free_is (fixed_in g.A.Action.meaning c.args.self.now) c.args.hand.now c.args.effect.now c.requires.own.plain c.requires.at c.requires.none)

pub step_resolved-place-requires-clause-may : goal.step_resolved-place-requires-clause-may
step_resolved-place-requires-clause-may g c κs within = c.from.ensures

pub returns-clause-own : goal.returns-clause-own
returns-clause-own g c = record {
  pass = dropped_own (fixed_in g.A.Action.meaning c.args.self.now) (length c.args.self.now.rooms) c.args.self.now.table c.step_resolved-place.new.hand _ c.step_resolved-place.ensures.own c.step_resolved-place.ensures.plain.effect;
  plain = c.step_resolved-place.ensures.plain;
}

pub returns-clause-view : goal.returns-clause-view
returns-clause-view g c = free_after (fixed_in g.A.Action.meaning c.args.self.now) c.args.hand.now c.args.effect.now c.requires.own.plain c.requires.at c.requires.none c.step_resolved-place.new.hand c.step_resolved-place.result c.step_resolved-place.ensures.plain c.step_resolved-place.ensures.pass

pub returns-clause-seen : goal.returns-clause-seen
returns-clause-seen g c = c.step_resolved-place.ensures.seen (kind_commits (fixed_in g.A.Action.meaning c.args.self.now) (pass_keeping c.args.hand.now c.args.effect.now) _ _ (free_is (fixed_in g.A.Action.meaning c.args.self.now) c.args.hand.now c.args.effect.now c.requires.own.plain c.requires.at c.requires.none))

pub returns-clause-small : goal.returns-clause-small
returns-clause-small g c = c.step_resolved-place.ensures.small (kind_commits (fixed_in g.A.Action.meaning c.args.self.now) (pass_keeping c.args.hand.now c.args.effect.now) _ _ (free_is (fixed_in g.A.Action.meaning c.args.self.now) c.args.hand.now c.args.effect.now c.requires.own.plain c.requires.at c.requires.none))
