use Rattle.std.proofs.Common.{◌≡◌, ◌≤◌, ◌-◌, length}
use Rattle.edge_io.specs.Lines.{ahead, HasNotReadAhead}
use Rattle.demo_lines.specs.declared.rest.TheConstants.{LONGEST_REST}
use Rattle.demo_lines.proofs.RestLines.{TakesFront}
use Rattle.demo_lines.proofs.rest.next_rest.Given as goal

-- the front of the line was taken so far
abbrev pub invariant-parts : goal.invariant-parts
invariant-parts g l = record {
  front : TakesFront (ahead l.fn.lines (g.S.Source.left l.fn.source)) (ahead l.lines (g.S.Source.left l.source)) l.out;
  fits : length l.out ≤ LONGEST_REST;
  needed : HasNotReadAhead l.fn.source l.source (g.S.Source.last l.source) l.fn.lines l.lines;
  before_end : g.S.Source.ended l.source ≡ g.S.Source.ended l.fn.source;
  uncounted : g.S.Source.faults l.source ≡ g.S.Source.faults l.fn.source;
  keeps : g.S.Source.never_fails l.fn.source → g.S.Source.never_fails l.source;
}

abbrev pub decreases-parts : goal.decreases-parts
decreases-parts g l = LONGEST_REST - length l.out
