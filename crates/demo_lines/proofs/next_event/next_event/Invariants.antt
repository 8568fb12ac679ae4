use Rattle.std.proofs.Common.{◌≡◌}
use Rattle.edge_io.specs.Lines.{ahead, HasNotReadAhead}
use Rattle.demo_lines.specs.Recording.{lines_left}
use Rattle.demo_lines.proofs.Walks.{Walks}
use Rattle.demo_lines.proofs.MapGiven.{MapSoFar}
use Rattle.demo_lines.proofs.next_event.next_event.Given as goal

-- the lines so far gave no event, and no more was read than they needed
abbrev pub invariant-loop-reading : goal.invariant-loop-reading
invariant-loop-reading g l = record {
  walks : Walks l.fn.reading l.reading (ahead l.fn.lines (g.S.Source.left l.fn.source)) (ahead l.lines (g.S.Source.left l.source));
  map : MapSoFar l.fn.reading l.reading;
  needed : HasNotReadAhead l.fn.source l.source (g.S.Source.last l.source) l.fn.lines l.lines;
  before_end : g.S.Source.ended l.source ≡ g.S.Source.ended l.fn.source;
  cut : l.is_cut ≡ l.fn.is_cut;
  uncounted : g.S.Source.faults l.source ≡ g.S.Source.faults l.fn.source;
  keeps : g.S.Source.never_fails l.fn.source → g.S.Source.never_fails l.source;
}

abbrev pub decreases-loop-reading : goal.decreases-loop-reading
decreases-loop-reading g l = lines_left l.reading
