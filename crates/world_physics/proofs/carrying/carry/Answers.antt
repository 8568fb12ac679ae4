use Rattle.std.proofs.Common.{◌+◌, refl, ◌∙◌, arith, subst, sym}
use Rattle.world_physics.specs.LiftSteps.{carried_along}
use Rattle.world_physics.proofs.Changes.{IsChangedBelow, changed_none, changed_more}
use Rattle.world_physics.proofs.Carried.{has_room, all_carried}
use Rattle.world_physics.proofs.carrying.carry.Goals as goal

pub loop-slot-init : goal.loop-slot-init
loop-slot-init c = record {
  changed = changed_none (carried_along c.args.step.now) c.args.world.now.records;
  tree = refl;
  linked = λ some. absurd (omega (arith, some));
}

pub carry_slot-requires-clause-room : goal.carry_slot-requires-clause-room
carry_slot-requires-clause-room c =
    has_room c.args.step.now c.loop-slot.slot c.args.world.now.records c.loop-slot.world.records c.loop-slot.invariant.changed (c.requires.room c.loop-slot.slot)

pub loop-slot-preserved : goal.loop-slot-preserved
loop-slot-preserved c = record {
  changed = subst (IsChangedBelow (carried_along c.args.step.now) (c.loop-slot.slot + 1) c.args.world.now.records) (sym c.carry_slot.ensures.records)
      (changed_more (carried_along c.args.step.now) c.loop-slot.slot (c.loop-slot.slot + 1) c.args.world.now.records c.loop-slot.world.records refl c.loop-slot.invariant.changed);
  tree = c.carry_slot.ensures.tree ∙ c.loop-slot.invariant.tree;
  linked = λ some. c.carry_slot.ensures.linked;
}

pub returns-clause-records : goal.returns-clause-records
returns-clause-records c =
    let past = c.loop-slot-test.false in
    all_carried c.args.step.now c.loop-slot.slot c.args.world.now.records c.loop-slot.world (c.loop-slot.invariant.linked (omega (arith, past))) (omega (arith, past)) c.loop-slot.invariant.changed
