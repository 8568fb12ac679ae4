use Rattle.std.proofs.Common.{◌+◌, refl, ◌∙◌, arith, subst, sym}
use Rattle.world_physics.specs.Returns.{record_after_returns}
use Rattle.world_physics.proofs.Changes.{IsChangedBelow, changed_none, changed_more, changed_all}
use Rattle.world_physics.proofs.Returning.{none_past, still_none, still_more, still_all}
use Rattle.world_physics.proofs.returns.return_items.Goals as goal

pub loop-id-init : goal.loop-id-init
loop-id-init c = record {
  changed = changed_none (record_after_returns c.args.frame) c.args.world.now.records;
  tree = refl;
  still = still_none (record_after_returns c.args.frame) c.args.world.now;
  linked = λ some. absurd (omega (arith, some));
}

pub loop-id-preserved : goal.loop-id-preserved
loop-id-preserved c = record {
  changed = subst (IsChangedBelow (record_after_returns c.args.frame) (c.loop-id.id + 1) c.args.world.now.records) (sym c.return_item.ensures.records)
      (changed_more (record_after_returns c.args.frame) c.loop-id.id (c.loop-id.id + 1) c.args.world.now.records c.loop-id.world.records refl c.loop-id.invariant.changed);
  tree = c.return_item.ensures.tree ∙ c.loop-id.invariant.tree;
  still = still_more (record_after_returns c.args.frame) c.loop-id.id (c.loop-id.id + 1) c.args.world.now c.loop-id.world c.return_item.new.world refl c.loop-id.invariant.changed
      c.loop-id.invariant.still c.return_item.ensures.records c.return_item.ensures.still;
  linked = λ some. c.return_item.ensures.linked;
}

pub returns-clause-records : goal.returns-clause-records
returns-clause-records c =
    let changed = c.loop-id.invariant.changed in
    let linked = c.loop-id.invariant.linked (omega (arith, c.loop-id-test.false)) in
    changed_all (record_after_returns c.args.frame) c.loop-id.id c.args.world.now.records c.loop-id.world.records changed
    (λ k r past at. absurd (none_past c.args.world.now.records k r (omega (arith, past, c.loop-id-test.false, linked.places, changed.count)) at))

pub returns-clause-still : goal.returns-clause-still
returns-clause-still c = still_all (record_after_returns c.args.frame) c.loop-id.id c.args.world.now c.loop-id.world c.loop-id.invariant.changed c.loop-id.invariant.still
