use Rattle.std.proofs.Common.{sym, ◌∙◌}
use Rattle.snapshot_write.proofs.InView.{room_for_one, keeps_seen, passes_unseen}
use Rattle.snapshot_write.proofs.writing.ids_seen.Goals as goal
use Rattle.snapshot_write.proofs.writing.ids_seen.Goals.{then-sees, else-sees}

pub push-requires : goal.push-requires
push-requires c =
    room_for_one c.args.world.now.records c.live_ids-id-items.result.now c.loop-id.id-index _ c.args.me c.args.view.now
    c.live_ids-id-items.ensures.linked.entries c.live_ids-id-items.ensures.ids c.loop-id-test.true
    c.loop-id.ids (sym c.sees.ensures ∙ c.if-sees.true) c.requires.few c.loop-id.invariant

pub loop-id-preserved : goal.loop-id-preserved
loop-id-preserved c =
    elim c.if-sees.branch [
      | then-sees w ↦
          rw (w.ids-is, w.push.ensures) (keeps_seen c.args.world.now.records c.live_ids-id-items.result.now c.loop-id.id-index _ c.args.me c.args.view.now
          c.live_ids-id-items.ensures.linked.entries c.live_ids-id-items.ensures.ids c.loop-id-test.true
          c.loop-id.ids (sym c.sees.ensures ∙ w.if-sees.true) c.loop-id.invariant)
      | else-sees w ↦
          rw w.ids-is (passes_unseen c.args.world.now.records c.live_ids-id-items.result.now c.loop-id.id-index _ c.args.me c.args.view.now
          c.live_ids-id-items.ensures.linked.entries c.live_ids-id-items.ensures.ids c.loop-id-test.true
          c.loop-id.ids (sym c.sees.ensures ∙ w.if-sees.false) c.loop-id.invariant)
    ]
