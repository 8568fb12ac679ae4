use Rattle.std.proofs.Common.{◌∙◌, ap}
use Rattle.core_steps.specs.Nodes.{Fixed, inner_of_two}
use Rattle.core_seats.specs.Shown.{fixed_of}
use Rattle.ruled_words.specs.Passes.{fixed_in}
use Rattle.ruled_words.proofs.shared_words.SharedWords.write_nodes.Goals as goal

pub returns : goal.returns
returns g c = c.inner_of_two.ensures ∙ ap (λ (G : Fixed). inner_of_two G c.args.old c.args.new) (ap (fixed_of g.A.Action.meaning) c.self.invariant.1 ∙ ap (fixed_in g.A.Action.meaning) c.self.view_is)
