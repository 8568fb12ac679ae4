use Rattle.std.proofs.Common.{refl, rules}
use Rattle.edge_io.proofs.ReadingAhead.{HasNotReadAhead-same}
use Rattle.demo_lines.proofs.RestLines.{none_taken, none_at_end}
use Rattle.demo_lines.proofs.demo_reader.DemoReader.rest.Goals as goal

pub returns-then-self-clause-none : goal.returns-then-self-clause-none
returns-then-self-clause-none g c = record {
  none = λ may. none_at_end _ (may.at_end (search rules));
  taken = none_taken _ _ _ (HasNotReadAhead-same g.S.Source.last c.args.source.now c.args.self.now.pending, refl);
  uncounted = refl;
  cut = search rules;
  ok = search rules;
}
