use Rattle.std.proofs.Common.{◌∙◌, sym, ap, subst}
use Rattle.std.specs.Prelude.{is_some, IsSome}
use Rattle.world_tree.specs.Live.{record_at}
use Rattle.world_physics.proofs.LiftRecords.{has_lift, is_step_at, is_step}
use Rattle.world_physics.proofs.Valid.{has_room}
use Rattle.world_physics.proofs.Stepping.{still_live, step-stopped, relinked-done, after_lift-is, after_lift_is_valid, way_at}
use Rattle.world_physics.proofs.Stillness.{done_moves}
use Rattle.world_physics.proofs.ticking.move_lift.Goals as goal

pub unwrap-r-requires : goal.unwrap-r-requires
unwrap-r-requires c =
    let found = has_lift c.args.map.now c.args.world.now.records c.args.id c.args.lift.now c.requires.rules c.requires.valid c.requires.lift in
    ap is_some (c.get.ensures.record ∙ found.at)

pub of-step-requires : goal.of-step-requires
of-step-requires c =
    way_at c.args.map.now c.args.world.now.records c.args.id c.args.lift.now c.unwrap-r.result c.requires.rules c.requires.valid c.requires.lift
    (sym c.get.ensures.record ∙ c.unwrap-r.ensures)

pub is_stopped-requires : goal.is_stopped-requires
is_stopped-requires c =
    let is = is_step_at c.args.map.now c.args.world.now.records c.args.id c.args.lift.now c.unwrap-r.result c.of-step.result c.requires.rules
    c.requires.valid c.requires.lift (sym c.get.ensures.record ∙ c.unwrap-r.ensures) c.of-step.ensures in
    is_step c.args.map.now c.args.world.now.records c.args.id c.of-step.result is

pub carry-requires-clause-step : goal.carry-requires-clause-step
carry-requires-clause-step c =
    let is = is_step_at c.args.map.now c.args.world.now.records c.args.id c.args.lift.now c.unwrap-r.result c.of-step.result c.requires.rules
    c.requires.valid c.requires.lift (sym c.get.ensures.record ∙ c.unwrap-r.ensures) c.of-step.ensures in
    is_step c.args.map.now c.args.world.now.records c.args.id c.of-step.result is

pub carry-requires-clause-room : goal.carry-requires-clause-room
carry-requires-clause-room c =
    let is = is_step_at c.args.map.now c.args.world.now.records c.args.id c.args.lift.now c.unwrap-r.result c.of-step.result c.requires.rules
    c.requires.valid c.requires.lift (sym c.get.ensures.record ∙ c.unwrap-r.ensures) c.of-step.ensures in
    let free = sym c.is_stopped.ensures ∙ c.if-not-is_stopped.true in
    has_room c.args.map.now c.args.world.now.records c.args.id c.of-step.result c.requires.rules c.requires.valid is free

pub relink-requires-clause-record : goal.relink-requires-clause-record
relink-requires-clause-record c =
    let is = is_step_at c.args.map.now c.args.world.now.records c.args.id c.args.lift.now c.unwrap-r.result c.of-step.result c.requires.rules
    c.requires.valid c.requires.lift (sym c.get.ensures.record ∙ c.unwrap-r.ensures) c.of-step.ensures in
    is.valid_after.is_record

pub relink-requires-clause-live : goal.relink-requires-clause-live
relink-requires-clause-live c =
    let is = is_step_at c.args.map.now c.args.world.now.records c.args.id c.args.lift.now c.unwrap-r.result c.of-step.result c.requires.rules
    c.requires.valid c.requires.lift (sym c.get.ensures.record ∙ c.unwrap-r.ensures) c.of-step.ensures in
    subst (λ rs. IsSome (record_at rs c.of-step.result.after.id)) (sym c.carry.ensures.records)
    (still_live c.args.map.now c.args.world.now.records c.args.id c.of-step.result c.requires.valid is)

pub returns-then-not-is_stopped-clause-records : goal.returns-then-not-is_stopped-clause-records
returns-then-not-is_stopped-clause-records c =
    let is = is_step_at c.args.map.now c.args.world.now.records c.args.id c.args.lift.now c.unwrap-r.result c.of-step.result c.requires.rules
    c.requires.valid c.requires.lift (sym c.get.ensures.record ∙ c.unwrap-r.ensures) c.of-step.ensures in
    let free = sym c.is_stopped.ensures ∙ c.if-not-is_stopped.true in
    after_lift-is c.args.map.now c.args.world.now.records c.relink.new.self.records c.args.id c.args.lift.now c.unwrap-r.result c.of-step.result
    (sym c.get.ensures.record ∙ c.unwrap-r.ensures) c.of-step.ensures
    (relinked-done c.args.map.now c.args.world.now.records c.args.id c.of-step.result c.requires.valid is c.carry.new.world c.relink.new.self c.carry.ensures.records c.relink.ensures.world free)

pub returns-then-not-is_stopped-clause-valid : goal.returns-then-not-is_stopped-clause-valid
returns-then-not-is_stopped-clause-valid c =
    let is = is_step_at c.args.map.now c.args.world.now.records c.args.id c.args.lift.now c.unwrap-r.result c.of-step.result c.requires.rules
    c.requires.valid c.requires.lift (sym c.get.ensures.record ∙ c.unwrap-r.ensures) c.of-step.ensures in
    let free = sym c.is_stopped.ensures ∙ c.if-not-is_stopped.true in
    after_lift_is_valid c.args.map.now c.args.world.now.records c.relink.new.self.records c.args.id c.of-step.result c.requires.rules c.requires.valid is
    (relinked-done c.args.map.now c.args.world.now.records c.args.id c.of-step.result c.requires.valid is c.carry.new.world c.relink.new.self c.carry.ensures.records c.relink.ensures.world free)

pub returns-else-not-is_stopped-clause-records : goal.returns-else-not-is_stopped-clause-records
returns-else-not-is_stopped-clause-records c =
    after_lift-is c.args.map.now c.args.world.now.records c.args.world.now.records c.args.id c.args.lift.now c.unwrap-r.result c.of-step.result
    (sym c.get.ensures.record ∙ c.unwrap-r.ensures) c.of-step.ensures
    (step-stopped c.args.map.now c.of-step.result c.args.world.now.records (sym c.is_stopped.ensures ∙ c.if-not-is_stopped.false))

pub returns-then-not-is_stopped-clause-still : goal.returns-then-not-is_stopped-clause-still
returns-then-not-is_stopped-clause-still c = λ still.
    let is = is_step_at c.args.map.now c.args.world.now.records c.args.id c.args.lift.now c.unwrap-r.result c.of-step.result c.requires.rules
    c.requires.valid c.requires.lift (sym c.get.ensures.record ∙ c.unwrap-r.ensures) c.of-step.ensures in
    let free = sym c.is_stopped.ensures ∙ c.if-not-is_stopped.true in
    absurd (done_moves c.args.map.now c.args.world.now.records c.relink.new.self.records c.args.id c.args.lift.now c.unwrap-r.result c.of-step.result c.requires.rules
    c.requires.valid c.requires.lift (sym c.get.ensures.record ∙ c.unwrap-r.ensures) c.of-step.ensures free
    (relinked-done c.args.map.now c.args.world.now.records c.args.id c.of-step.result c.requires.valid is c.carry.new.world c.relink.new.self c.carry.ensures.records c.relink.ensures.world free) still)
