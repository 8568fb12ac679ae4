use Rattle.std.proofs.Common.{◌≡◌, ℕ, ◌≤◌, length, List, [], Err, inl, inr, refl, sym, ap, ◌∙◌, subst, arith}
use Rattle.std.proofs.lemmas.Result.{err_from_is_err_and}
use Rattle.bot_ways.specs.PlanTexts.{least_line, plan_text}
use Rattle.arena_engine.specs.Planned.{ShowsNoWay}
use Rattle.arena_engine.proofs.WaysReported.{shows-way, empty-way, some-way, ways-cut}
use Rattle.arena_engine.proofs.commands.bots.write_ways.Goals as goal

pub returns-in_err-write_least-clause-err : goal.returns-in_err-write_least-clause-err
returns-in_err-write_least-clause-err g c =
    let p = err_from_is_err_and c.from_residual-in_err-write_least.result c.from_residual-in_err-write_least.ensures.1 in
    let m = c.args.map.now in
    let plan = c.in_ok-plan.plan in
    let planned = c.in_ok-plan.ensures in
    let wrote = c.write_least.ensures in
    let none = planned.no_way.0 (sym c.as_slice.ensures.value ∙ empty-way c.as_slice.result.now c.if-is_empty.ensures) in
    let shows : ShowsNoWay m c.args.target (least_line plan.least) = record {
      least = plan.least;
      is_map = c.spawns.ensures.rules;
      there = omega (arith, c.if-from-spawns.false, c.from.ensures, ap length c.spawns.ensures.value);
      certificate = planned.certificate;
      none = none;
      text_is = refl;
    } in
    rw (p.1 ∙ ap Err p.2)
    (ways-cut g.K.Sink m c.args.target c.args.sink.now c.write_least.new.sink (least_line plan.least) c.write_least.result c.in_err-write_least.field-0.0 c.in_err-write_least.was
    wrote.write_fault wrote.no_memory wrote.later wrote.fault wrote.sure (inr shows))

pub returns-in_err-write_plan-clause-err : goal.returns-in_err-write_plan-clause-err
returns-in_err-write_plan-clause-err g c =
    let p = err_from_is_err_and c.from_residual-in_err-write_plan.result c.from_residual-in_err-write_plan.ensures.1 in
    let m = c.args.map.now in
    let plan = c.in_ok-plan.plan in
    let planned = c.in_ok-plan.ensures in
    let wrote = c.write_plan.ensures in
    let few = subst (λ (way : List ℕ). length way ≤ 64) c.as_slice.ensures.value c.as_slice.ensures.bound in
    let some : plan.way ≡ [] → ⊥ = λ is. some-way c.as_slice.result.now c.if-is_empty.ensures (c.as_slice.ensures.value ∙ is) in
    let shows = shows-way m plan c.args.target c.spawns.ensures.rules planned.least planned.certificate planned.no_way.1 planned.way planned.walk few some in
    rw (p.1 ∙ ap Err p.2)
    (ways-cut g.K.Sink m c.args.target c.args.sink.now c.write_plan.new.sink (plan_text m plan) c.write_plan.result c.in_err-write_plan.field-0.0 c.in_err-write_plan.was
    wrote.write_fault wrote.no_memory wrote.later wrote.fault wrote.sure (inl shows))
