use Rattle.std.proofs.Common.{◌≡◌, arith}
use Rattle.std.proofs.lemmas.Bool.Decides.{nat_tests}
use Rattle.demo_make.proofs.Steps.{joins_of, left-open}
use Rattle.demo_make.proofs.generator.Generator.open.Goals as goal
use Rattle.demo_make.proofs.generator.Generator.open.Goals.{then-self-eq0, else-self-eq0}

pub returns : goal.returns
returns c =
    let g = c.args.self.now in
    let joins : c.if-self-eq0.self ≡ joins_of g.players g.opened =
    elim c.if-self-eq0.branch [ then-self-eq0 w ↦ grind (arith, nat_tests, w.self-is, w.if-self-eq0.true) | else-self-eq0 w ↦ grind (arith, nat_tests, w.self-is, w.if-self-eq0.false) ] in
    rw joins
    (left-open g.sending g.seed g.players g.opened g.frames_left g.joins_left g.moves_left g.ended c.requires.no_join c.requires.no_move c.requires.some)
