use Rattle.std.proofs.Common.{refl, arith, rules, ◌∙◌}
use Rattle.box_strips.proofs.Spreading.{spread_first, spread_more, all_spread}
use Rattle.box_strips.proofs.rows.spread.Goals as goal

pub loop-word-init : goal.loop-word-init
loop-word-init c = record { are = spread_first c.args.words c.args.rows.now; some = omega arith; long = refl }

pub loop-word-preserved : goal.loop-word-preserved
loop-word-preserved c =
    let some = c.loop-word.invariant.some in
    let long = c.loop-word.invariant.long in
    record {
      are = spread_more c.args.words c.args.rows.now c.loop-word.rows c.loop-word.word some (omega (arith, long, c.loop-word-test.true)) c.loop-word.invariant.are;
      some = omega (arith, some);
      long = search (rules, long);
    }

pub returns-clause-spread : goal.returns-clause-spread
returns-clause-spread c count long_is =
    let long = c.loop-word.invariant.long in
    all_spread c.args.words c.args.rows.now c.loop-word.rows c.loop-word.word count (omega (arith, long, c.loop-word-test.false)) (long ∙ long_is) c.loop-word.invariant.are
