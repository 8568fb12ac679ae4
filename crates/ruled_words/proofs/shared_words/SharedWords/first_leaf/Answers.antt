use Rattle.std.proofs.Common.{◌∙◌, ap}
use Rattle.core_steps.specs.Nodes.{inner_nodes}
use Rattle.core_seats.specs.Shown.{fixed_of}
use Rattle.ruled_words.specs.Passes.{fixed_in}
use Rattle.ruled_words.proofs.shared_words.SharedWords.first_leaf.Goals as goal

pub returns-clause-value : goal.returns-clause-value
returns-clause-value g c = c.first_leaf.ensures.value ∙ ap inner_nodes (ap (fixed_of g.A.Action.meaning) c.self.invariant.1 ∙ ap (fixed_in g.A.Action.meaning) c.self.view_is)
