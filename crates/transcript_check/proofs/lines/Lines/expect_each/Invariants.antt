use Rattle.std.proofs.Common.{map, drop}
use Rattle.transcript_check.proofs.ReadingOn.{ReadsSome}
use Rattle.transcript_check.proofs.lines.Lines.expect_each.Given as goal

-- the lines of the items so far were read, and those of the others are left
abbrev pub invariant-loop-item : goal.invariant-loop-item
invariant-loop-item g l =
    ReadsSome g.S.Source l.fn.source l.source l.fn.self.input l.self.input (map g.T.Printed.line l.items) (map g.T.Printed.line (drop l.item-index l.items))
