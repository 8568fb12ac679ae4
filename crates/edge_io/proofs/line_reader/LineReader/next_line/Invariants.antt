use Rattle.std.proofs.Common.{◌≡◌, ◌≤◌, ◌-◌, ◌+◌, length}
use Rattle.std.specs.Io.KnownBytes.{Consumes}
use Rattle.edge_io.specs.Lines.{ahead, AreBytes, HasNoLineFeed, HasNotReadAhead}
use Rattle.edge_io.specs.declared.line_reader.TheConstants.{LONGEST}
use Rattle.edge_io.proofs.line_reader.LineReader.next_line.Given as goal

abbrev pub invariant-loop-self : goal.invariant-loop-self
invariant-loop-self g l = record {
  consumed : Consumes (ahead l.fn.self (g.S.Source.left l.fn.source)) (ahead l.self (g.S.Source.left l.source)) l.line;
  one_line : HasNoLineFeed l.line;
  bytes : AreBytes l.line;
  fits : length l.line ≤ LONGEST;
  needed : HasNotReadAhead l.fn.source l.source (g.S.Source.last l.source) l.fn.self l.self;
  before_end : g.S.Source.ended l.source ≡ g.S.Source.ended l.fn.source;
  uncounted : g.S.Source.faults l.source ≡ g.S.Source.faults l.fn.source;
  keeps : g.S.Source.never_fails l.fn.source → g.S.Source.never_fails l.source;
}

abbrev pub decreases-loop-self : goal.decreases-loop-self
decreases-loop-self g l = LONGEST + 1 - length l.line
