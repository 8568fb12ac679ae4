use Rattle.std.proofs.Common.{sym, ◌∙◌, subst}
use Rattle.std.specs.Arc.{arc_value}
use Rattle.move_phase.specs.Turns.{IsTurnOf}
use Rattle.move_phase.proofs.Reversing.{IsReversing, one_taken}
use Rattle.move_phase.proofs.runners.give_out.Goals as goal

pub loop-pass-preserved : goal.loop-pass-preserved
loop-pass-preserved g c =
    let l = c.loop-pass in
    let of = IsTurnOf (arc_value c.args.frame.now) in (
      subst (IsReversing of c.args.passes.now.items c.pop.new.self.items) (sym c.push_reserved.ensures.items)
          (one_taken of c.args.passes.now.items l.passes.items c.pop.new.self.items l.turns.items c.in-Some.pass l.invariant.0 c.in-Some.ensures.items c.of.result c.of.ensures),
      c.in-Some.ensures.capacity ∙ l.invariant.1,
      c.push_reserved.ensures.capacity ∙ l.invariant.2,
    )
