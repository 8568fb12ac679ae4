use Rattle.std.proofs.Common.{sym, ◌∙◌, subst}
use Rattle.move_phase.specs.Turns.{HasPass, HasSomePass}
use Rattle.move_phase.proofs.Reversing.{IsReversing, holds_of_taken, one_taken}
use Rattle.move_phase.proofs.runners.take_back.Goals as goal

pub into_pass-requires : goal.into_pass-requires
into_pass-requires g c =
    let l = c.loop-turn in
    holds_of_taken HasPass c.args.turns.now.items l.turns.items c.pop.new.self.items l.passes.items c.in-Some.turn l.invariant.0 c.in-Some.ensures.items
    HasSomePass c.requires.each

pub loop-turn-preserved : goal.loop-turn-preserved
loop-turn-preserved g c =
    let l = c.loop-turn in (
      subst (IsReversing HasPass c.args.turns.now.items c.pop.new.self.items) (sym c.push_reserved.ensures.items)
          (one_taken HasPass c.args.turns.now.items l.turns.items c.pop.new.self.items l.passes.items c.in-Some.turn l.invariant.0 c.in-Some.ensures.items c.into_pass.result c.into_pass.ensures),
      c.in-Some.ensures.capacity ∙ l.invariant.1,
      c.push_reserved.ensures.capacity ∙ l.invariant.2,
    )
