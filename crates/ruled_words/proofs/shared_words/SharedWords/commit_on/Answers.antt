use Rattle.std.proofs.Common.{◌∙◌, ℕ, List, ap, sym}
use Rattle.core_steps.specs.Steps.{view_after_commit}
use Rattle.ruled_words.specs.Passes.{fixed_in}
use Rattle.ruled_words.specs.Straight.{in_view}
use Rattle.ruled_words.specs.Writing.{nodes_held, claimed_point, claimed_effect}
use Rattle.ruled_words.proofs.Claims.{claimed_none, no_nodes, claimed_some, claimed_held, claimed_effect_is}
use Rattle.ruled_words.proofs.shared_words.SharedWords.commit_on.Goals as goal

pub commit_free-requires-clause-at : goal.commit_free-requires-clause-at
commit_free-requires-clause-at g c κs within =
    claimed_none c.args.nodes.now c.args.hand.now.view.point (sym c.is_empty.ensures ∙ c.if-is_empty.true) (c.requires.claimed.at ∙ ap claimed_point (sym c.requires.nodes))

pub commit_free-requires-clause-none : goal.commit_free-requires-clause-none
commit_free-requires-clause-none g c κs within = sym c.requires.nodes ∙ no_nodes c.args.nodes.now (sym c.is_empty.ensures ∙ c.if-is_empty.true)

pub commit_claimed-requires-clause-at : goal.commit_claimed-requires-clause-at
commit_claimed-requires-clause-at g c κs within =
    claimed_held c.args.nodes.now c.args.hand.now.view.point
    (claimed_some c.args.nodes.now c.args.hand.now.view.point (sym c.is_empty.ensures ∙ c.if-is_empty.false) (c.requires.claimed.at ∙ ap claimed_point (sym c.requires.nodes)))

pub commit_claimed-requires-clause-effect : goal.commit_claimed-requires-clause-effect
commit_claimed-requires-clause-effect g c κs within =
    claimed_effect_is c.args.nodes.now c.args.effect.now c.args.hand.now.view.effect (sym c.is_empty.ensures ∙ c.if-is_empty.false) (c.requires.claimed.effect ∙ ap (claimed_effect c.args.effect.now) (sym c.requires.nodes))

pub returns-then-is_empty-clause-view : goal.returns-then-is_empty-clause-view
returns-then-is_empty-clause-view g c =
    c.commit_free.ensures.view
    ∙ ap (λ (ns : List ℕ). in_view c.args.hand.now (view_after_commit (fixed_in g.A.Action.meaning c.args.self.now) c.commit_free.result c.args.effect.now ns c.args.hand.now.view)) (sym (no_nodes c.args.nodes.now (sym c.is_empty.ensures ∙ c.if-is_empty.true)))

pub returns-else-is_empty-clause-view : goal.returns-else-is_empty-clause-view
returns-else-is_empty-clause-view g c =
    c.commit_claimed.ensures.view
    ∙ ap (λ (ns : List ℕ). in_view c.args.hand.now (view_after_commit (fixed_in g.A.Action.meaning c.args.self.now) c.commit_claimed.result c.args.effect.now ns c.args.hand.now.view))
    (ap nodes_held (claimed_some c.args.nodes.now c.args.hand.now.view.point (sym c.is_empty.ensures ∙ c.if-is_empty.false) (c.requires.claimed.at ∙ ap claimed_point (sym c.requires.nodes))))
