use Rattle.std.proofs.Common.{◌≡◌, arith}
use Rattle.entity_recs.specs.declared.rec.Rec.{Rec}
use Rattle.frame_phases.proofs.Showing.{shown-next, shown_few, shown-all}
use Rattle.frame_phases.proofs.shows.list_slots.Goals as goal

pub list_slot-requires : goal.list_slot-requires
list_slot-requires c =
    let few = shown_few (λ (me : Rec). me.id) c.args.world.now.records c.loop-slot.slot c.loop-slot.slots c.loop-slot.invariant.so_far in
    omega (arith, few, c.loop-slot-test.true)

pub loop-slot-preserved : goal.loop-slot-preserved
loop-slot-preserved c = record {
  so_far = shown-next (λ (me : Rec). me.id) c.args.world.now.records c.loop-slot.slot c.loop-slot.slots c.list_slot.new.slots c.loop-slot.invariant.so_far c.list_slot.ensures.slots;
  linked = λ _. c.list_slot.ensures.linked;
}

pub returns-clause-slots : goal.returns-clause-slots
returns-clause-slots c =
    let all : c.loop-slot.slot ≡ 64 = omega arith in
    shown-all (λ (me : Rec). me.id) c.args.world.now.records c.loop-slot.slot c.loop-slot.slots (c.loop-slot.invariant.linked (omega (arith, all))).entries all c.loop-slot.invariant.so_far

pub returns-clause-linked : goal.returns-clause-linked
returns-clause-linked c =
    let all : c.loop-slot.slot ≡ 64 = omega arith in
    c.loop-slot.invariant.linked (omega (arith, all))
