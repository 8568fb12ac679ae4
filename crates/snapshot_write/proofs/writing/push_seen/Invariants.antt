use Rattle.std.proofs.Common.{◌++◌}
use Rattle.world_tree.specs.Live.{live_in}
use Rattle.snapshot_write.specs.Snapshots.{in_view, seen_bytes}
use Rattle.snapshot_write.proofs.InView.{KeepsPushing}
use Rattle.snapshot_write.proofs.writing.push_seen.Given as goal

abbrev pub invariant-loop-id : goal.invariant-loop-id
invariant-loop-id l =
    let seen = in_view l.view l.me (live_in l.world.records) in
    KeepsPushing seen l.id-index l.out (l.fn.out ++ seen_bytes seen)
