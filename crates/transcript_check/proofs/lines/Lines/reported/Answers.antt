use Rattle.std.proofs.Common.{◌∙◌}
use Rattle.out_text.specs.OutLines.{DidLine}
use Rattle.transcript_check.proofs.lines.Lines.reported.Goals as goal

pub returns-clause-only : goal.returns-clause-only
returns-clause-only c = λ d range is.
    c.move_of.ensures d (c.read_line.ensures.only (DidLine d) (record { in_range = range; spelled = c.line.ensures ∙ is }))
