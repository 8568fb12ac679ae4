use Rattle.std.proofs.Common.{◌++◌}
use Rattle.slide_move.specs.Displacements.{displacement}
use Rattle.slide_move.proofs.Ways.{IsNear-part}
use Rattle.slide_move.proofs.Reaches.{IsNear-displacement}
use Rattle.slide_move.proofs.Slides.{IsAnswer, answer_along}
use Rattle.slide_move.proofs.sliding.slide.Goals as goal

answer : (c : goal.After-slide_along)
    → IsAnswer c.args.body.now c.args.vel c.args.ms (c.args.fixed.now ++ c.args.moving.now) c.slide_along.result
answer c = answer_along _ _ _ _ _ _ c.displacement.ensures.value c.slide_along.ensures.value

pub returns-clause-value : goal.returns-clause-value
returns-clause-value c = (answer c).value

pub returns-clause-shift : goal.returns-clause-shift
returns-clause-shift c = (answer c).shift

pub returns-clause-vel : goal.returns-clause-vel
returns-clause-vel c = (answer c).kept

pub returns-clause-near : goal.returns-clause-near
returns-clause-near c =
    IsNear-part (displacement c.args.vel c.args.ms) c.slide_along.result.shift 30000 (answer c).shift (IsNear-displacement c.args.vel c.args.ms c.requires.near c.requires.most)

pub returns-clause-free : goal.returns-clause-free
returns-clause-free c = (answer c).free
