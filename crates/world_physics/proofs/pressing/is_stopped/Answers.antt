use Rattle.std.proofs.Common.{◌+◌, ◌∙◌, refl, sym, arith}
use Rattle.world_physics.specs.LiftSteps.{is_pressed}
use Rattle.world_physics.proofs.Changes.{is_entry}
use Rattle.world_physics.proofs.Finding.{none_at_first, none_more}
use Rattle.world_physics.proofs.Pressed.{stopped, not_stopped}
use Rattle.world_physics.proofs.pressing.is_stopped.Goals as goal

pub loop-slot-init : goal.loop-slot-init
loop-slot-init c = record {
  none = none_at_first (is_pressed c.args.map.now c.args.step.now c.args.world.now.records) c.args.world.now.records;
  linked = λ some. absurd (omega (arith, some));
}

pub presses-requires-clause-record : goal.presses-requires-clause-record
presses-requires-clause-record c r at = (is_entry c.args.world.now c.loop-slot.slot r c.get.ensures.linked (sym c.get.ensures.record ∙ at)).is_record

pub returns-then-presses : goal.returns-then-presses
returns-then-presses c =
    stopped c.args.map.now c.args.step.now c.args.world.now.records c.loop-slot.slot c.get.result c.get.ensures.record (sym c.presses.ensures ∙ c.if-presses.true)

pub loop-slot-preserved : goal.loop-slot-preserved
loop-slot-preserved c = record {
  none =
      none_more (is_pressed c.args.map.now c.args.step.now c.args.world.now.records) c.loop-slot.slot (c.loop-slot.slot + 1) c.args.world.now.records c.get.result refl c.get.ensures.record
      c.loop-slot.invariant.none (sym c.presses.ensures ∙ c.if-presses.false);
  linked = λ some. c.get.ensures.linked;
}

pub returns : goal.returns
returns c =
    let past = c.loop-slot-test.false in
    not_stopped c.args.map.now c.args.step.now c.args.world.now c.loop-slot.slot (c.loop-slot.invariant.linked (omega (arith, past))) (omega (arith, past)) c.loop-slot.invariant.none
