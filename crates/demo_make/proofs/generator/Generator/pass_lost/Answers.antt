use Rattle.std.proofs.Common.{ap, ◌∙◌, sym}
use Rattle.demo_make.specs.Remaining.{progress_of, left_of}
use Rattle.demo_make.proofs.Steps.{left-lost}
use Rattle.demo_make.proofs.generator.Generator.pass_lost.Goals as goal

pub loop-self-preserved : goal.loop-self-preserved
loop-self-preserved c =
    let g = c.loop-self.self in
    let so_far = c.loop-self.invariant in
    record {
      same = so_far.same
          ∙ left-lost (progress_of g) so_far.no_join g.few_moves c.loop-self-test.ensures.lost
          ∙ ap left_of (sym c.draw.ensures.moves);
      no_join = ap (λ p. p.joins) c.draw.ensures.moves ∙ so_far.no_join;
    }
