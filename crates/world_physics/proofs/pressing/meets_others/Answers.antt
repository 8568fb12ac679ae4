use Rattle.std.proofs.Common.{◌+◌, ◌∙◌, refl, sym, arith}
use Rattle.world_physics.specs.LiftSteps.{is_in_the_way}
use Rattle.world_physics.proofs.Changes.{is_entry}
use Rattle.world_physics.proofs.Returning.{none_past}
use Rattle.world_physics.proofs.Finding.{none_at_first, none_more, found_here, none_at_last}
use Rattle.world_physics.proofs.pressing.meets_others.Goals as goal

pub loop-id-init : goal.loop-id-init
loop-id-init c = record {
  none = none_at_first (is_in_the_way c.args.step.now c.args.body.now) c.args.world.now.records;
  linked = λ some. absurd (omega (arith, some));
}

pub is_met-requires-clause-record : goal.is_met-requires-clause-record
is_met-requires-clause-record c r at = (is_entry c.args.world.now c.loop-id.id r c.get.ensures.linked (sym c.get.ensures.record ∙ at)).is_record

pub returns-then-is_met : goal.returns-then-is_met
returns-then-is_met c =
    sym (found_here (is_in_the_way c.args.step.now c.args.body.now) c.args.world.now.records c.loop-id.id c.get.result c.get.ensures.record (sym c.is_met.ensures ∙ c.if-is_met.true))

pub loop-id-preserved : goal.loop-id-preserved
loop-id-preserved c = record {
  none =
      none_more (is_in_the_way c.args.step.now c.args.body.now) c.loop-id.id (c.loop-id.id + 1) c.args.world.now.records c.get.result refl c.get.ensures.record c.loop-id.invariant.none
      (sym c.is_met.ensures ∙ c.if-is_met.false);
  linked = λ some. c.get.ensures.linked;
}

pub returns : goal.returns
returns c =
    let linked = c.loop-id.invariant.linked (omega (arith, c.loop-id-test.false)) in
    sym (none_at_last (is_in_the_way c.args.step.now c.args.body.now) c.loop-id.id c.args.world.now.records c.loop-id.invariant.none
    (λ k r past at. absurd (none_past c.args.world.now.records k r (omega (arith, past, c.loop-id-test.false, linked.places)) at)))
