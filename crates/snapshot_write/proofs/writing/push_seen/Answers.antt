use Rattle.std.proofs.Common.{IsSome, refl, sym, subst, ◌∙◌}
use Rattle.world_tree.specs.Live.{live_in}
use Rattle.snapshot_write.specs.Snapshots.{in_view}
use Rattle.snapshot_write.proofs.InView.{record-at_seen, seen-of_world, pushes_next, room_for_next}
use Rattle.std.proofs.lemmas.Option.{same_Some}
use Rattle.snapshot_write.proofs.writing.push_seen.Goals as goal

pub unwrap-requires : goal.unwrap-requires
unwrap-requires c =
    let records = c.args.world.now.records in
    let at = record-at_seen records (in_view c.args.view.now c.args.me (live_in records)) c.as_slice-ids.result.now c.loop-id.id-index _
    (c.as_slice-ids.ensures.value ∙ c.ids_seen-seen.ensures.ids) c.loop-id-test.true (seen-of_world records c.args.me c.args.view.now c.get.ensures.linked.entries) in
    subst IsSome (sym (c.get.ensures.record ∙ at)) refl

pub push_entity-requires : goal.push_entity-requires
push_entity-requires c =
    room_for_next c.args.world.now.records (in_view c.args.view.now c.args.me (live_in c.args.world.now.records)) c.as_slice-ids.result.now c.loop-id.id-index 0
    (c.as_slice-ids.ensures.value ∙ c.ids_seen-seen.ensures.ids) c.loop-id-test.true c.loop-id.out _ c.loop-id.invariant

pub loop-id-preserved : goal.loop-id-preserved
loop-id-preserved c =
    let records = c.args.world.now.records in
    let seen = in_view c.args.view.now c.args.me (live_in records) in
    let are = c.as_slice-ids.ensures.value ∙ c.ids_seen-seen.ensures.ids in
    let at = record-at_seen records seen c.as_slice-ids.result.now c.loop-id.id-index _ are c.loop-id-test.true
    (seen-of_world records c.args.me c.args.view.now c.get.ensures.linked.entries) in
    pushes_next records seen c.as_slice-ids.result.now c.loop-id.id-index 0 are c.loop-id-test.true c.unwrap.result c.loop-id.out c.push_entity.new.out _
    (same_Some _ _ (sym at ∙ sym c.get.ensures.record ∙ c.unwrap.ensures)) c.push_entity.ensures.bytes c.push_entity.ensures.len c.loop-id.invariant
