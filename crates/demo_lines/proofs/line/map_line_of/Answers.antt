use Rattle.std.proofs.Common.{ap, ◌∙◌}
use Rattle.demo_lines.specs.Said.{in_order}
use Rattle.demo_lines.proofs.MapWords.{map_line-in_order, if_ok-here}
use Rattle.demo_lines.proofs.line.map_line_of.Goals as goal

pub returns-clause-value : goal.returns-clause-value
returns-clause-value c =
    c.in_order.ensures.value
    ∙ ap (λ here. in_order here c.read_map_line.result) c.is_allowed.ensures
    ∙ ap (in_order _) c.read_map_line.ensures.value
    ∙ map_line-in_order c.args.stage c.args.word _ _ c.requires.word

pub returns-clause-here : goal.returns-clause-here
returns-clause-here c = if_ok-here c.args.stage c.args.word _ c.in_order.result (returns-clause-value c)
