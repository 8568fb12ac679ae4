use Rattle.std.proofs.Common.{◌≡◌, ◌+◌, refl, ◌∙◌, sym, ap, subst, arith, length, take}
use Rattle.std.proofs.lemmas.Grind.{common_steps}
use Rattle.std.proofs.lemmas.List.{take_all}
use Rattle.arena_map.specs.Maps.{entities_of}
use Rattle.arena_map.specs.Validity.{IsValidWorld}
use Rattle.world_physics.specs.Returns.{after_returns}
use Rattle.world_physics.specs.Ticks.{after_things, after_tick}
use Rattle.world_physics.proofs.Valid.{returns_keep_valid}
use Rattle.world_physics.proofs.Stillness.{still_first, still_next, still_last}
use Rattle.world_physics.proofs.ticking.tick.Goals as goal

pub loop-thing-init : goal.loop-thing-init
loop-thing-init c = (
  c.return_items.ensures.records,
  (
    subst (IsValidWorld c.args.map.now) (sym c.return_items.ensures.records) (returns_keep_valid c.args.map.now c.args.frame c.args.world.now.records c.requires),
    (c.return_items.ensures.tree, still_first c.args.map.now c.args.frame c.args.world.now c.return_items.new.world c.return_items.ensures.records c.return_items.ensures.still),
  ),
)

pub loop-thing-preserved : goal.loop-thing-preserved
loop-thing-preserved c =
    let made : c.move_thing.new.world.records
    ≡ after_things c.args.map.now (after_returns c.args.frame c.args.world.now.records) (take (c.loop-thing.thing-index + 1) (entities_of c.args.map.now)) =
    grind (arith, common_steps) in (
      made,
      (
        c.move_thing.ensures.valid,
        (
          c.move_thing.ensures.tree ∙ c.loop-thing.invariant.1.1.0,
          still_next c.args.map.now c.args.frame c.loop-thing.thing-index (c.loop-thing.thing-index + 1) c.args.world.now c.loop-thing.world c.move_thing.new.world refl
              c.loop-thing.invariant.0 made c.loop-thing.invariant.1.1.1 c.move_thing.ensures.still,
        ),
      ),
    )

pub returns-clause-records : goal.returns-clause-records
unfolding after_tick
returns-clause-records c =
    let things = ap length c.entities-thing-items.ensures.value in
    c.loop-thing.invariant.0
    ∙ ap (after_things c.args.map.now (after_returns c.args.frame c.args.world.now.records))
    (take_all c.loop-thing.thing-index (entities_of c.args.map.now) (omega (arith, things, c.loop-thing-test.false)))

pub returns-clause-still : goal.returns-clause-still
returns-clause-still c =
    still_last c.args.map.now c.args.frame c.loop-thing.thing-index c.args.world.now c.loop-thing.world c.entities-thing-items.ensures.rules c.requires
    (returns-clause-records c) c.loop-thing.invariant.1.1.1
