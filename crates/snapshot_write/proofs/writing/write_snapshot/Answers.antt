use Rattle.std.proofs.Common.{ℕ, ◌+◌, List, length, ap, ◌∙◌, rules}
use Rattle.snapshot_write.proofs.Written.{IsLookedUp, at_place, entry_at, seen_is, few_in_view, room_for, snapshot_is}
use Rattle.snapshot_write.specs.Laws.{HasCounts}
use Rattle.world_tree.specs.Live.{live_in}
use Rattle.snapshot_write.specs.Snapshots.{in_view}
use Rattle.snapshot_write.proofs.Sights.{written_out}
use Rattle.snapshot_write.proofs.writing.write_snapshot.Goals as goal

pub view-view-requires : goal.view-view-requires
view-view-requires c =
    let up : IsLookedUp c.args.world.now.records c.args.slot c.from-id.result c.get.result c.unwrap-me.result =
    record { same = c.from-id.ensures; looked_up = c.get.ensures.record; is = c.unwrap-me.ensures } in
    (entry_at c.args.world.now.records c.args.slot c.from-id.result c.get.result c.unwrap-me.result up c.get.ensures.linked.entries).is_record.origin

pub push_own-requires-clause-slot : goal.push_own-requires-clause-slot
push_own-requires-clause-slot c =
    let up : IsLookedUp c.args.world.now.records c.args.slot c.from-id.result c.get.result c.unwrap-me.result =
    record { same = c.from-id.ensures; looked_up = c.get.ensures.record; is = c.unwrap-me.ensures } in
    (entry_at c.args.world.now.records c.args.slot c.from-id.result c.get.result c.unwrap-me.result up c.get.ensures.linked.entries).own_id

pub push_seen-requires : goal.push_seen-requires
push_seen-requires c =
    let records = c.args.world.now.records in
    let me = c.unwrap-me.result in
    let up : IsLookedUp records c.args.slot c.from-id.result c.get.result me =
    record { same = c.from-id.ensures; looked_up = c.get.ensures.record; is = c.unwrap-me.ensures } in
    let seen = in_view c.view-view.result c.from-id.result (live_in records) in
    let is = seen_is records c.args.slot c.from-id.result c.get.result me c.view-view.result up c.get.ensures.linked.entries c.view-view.ensures in
    record {
      few = few_in_view records c.args.slot c.from-id.result c.get.result me seen up c.get.ensures.linked.places is;
      room = room_for records c.args.slot c.from-id.result c.get.result me seen (length c.push_own.new.out) up c.get.ensures.linked.places is
          (c.push_own.ensures.len ∙ ap (λ (l : List ℕ). length l + 41) c.requires.empty);
    }

pub returns-clause-bytes : goal.returns-clause-bytes
returns-clause-bytes c =
    let records = c.args.world.now.records in
    let me = c.unwrap-me.result in
    let up : IsLookedUp records c.args.slot c.from-id.result c.get.result me =
    record { same = c.from-id.ensures; looked_up = c.get.ensures.record; is = c.unwrap-me.ensures } in
    let seen = in_view c.view-view.result c.from-id.result (live_in records) in
    let is = seen_is records c.args.slot c.from-id.result c.get.result me c.view-view.result up c.get.ensures.linked.entries c.view-view.ensures in
    snapshot_is records c.args.slot c.from-id.result c.get.result me c.args.frame seen c.args.out.now c.push_own.new.out _ up is
    c.requires.empty c.push_own.ensures.bytes c.push_seen.ensures

pub returns-clause-read_again : goal.returns-clause-read_again
returns-clause-read_again c = λ small.
    let records = c.args.world.now.records in
    let me = c.unwrap-me.result in
    let up : IsLookedUp records c.args.slot c.from-id.result c.get.result me =
    record { same = c.from-id.ensures; looked_up = c.get.ensures.record; is = c.unwrap-me.ensures } in
    let counts : HasCounts me = record { score = search rules; seq = search rules } in
    written_out records c.args.frame c.args.slot me c.push_seen.new.out (at_place records c.args.slot c.from-id.result c.get.result me up)
    (returns-clause-bytes c) c.get.ensures.linked.places c.get.ensures.linked.entries c.ranges.frame.fits small counts
