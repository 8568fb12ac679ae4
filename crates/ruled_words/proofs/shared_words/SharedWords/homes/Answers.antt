use Rattle.std.proofs.Common.{◌∙◌, ap}
use Rattle.core_steps.specs.Nodes.{Fixed, home}
use Rattle.core_seats.specs.Shown.{fixed_of}
use Rattle.ruled_words.specs.Passes.{fixed_in}
use Rattle.ruled_words.proofs.shared_words.SharedWords.homes.Goals as goal

pub returns-clause-old : goal.returns-clause-old
returns-clause-old g c = c.home.ensures.node ∙ ap (λ (G : Fixed). home G c.args.before.now) (ap (fixed_of g.A.Action.meaning) c.self.invariant.1 ∙ ap (fixed_in g.A.Action.meaning) c.self.view_is)

pub returns-clause-new : goal.returns-clause-new
returns-clause-new g c = c.home-2.ensures.node ∙ ap (λ (G : Fixed). home G c.args.effect.now.me) (ap (fixed_of g.A.Action.meaning) c.self.invariant.1 ∙ ap (fixed_in g.A.Action.meaning) c.self.view_is)
