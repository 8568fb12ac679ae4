use Rattle.std.proofs.Common.{◌≡◌, ◌≤◌, false, map, take}
use Rattle.std.specs.List.{list_any}
use Rattle.snapshot_write.specs.declared.seen.TheConstants.{MOST_SEEN}
use Rattle.snapshot_write.specs.Faults.{has_wrong_field}
use Rattle.snapshot_write.specs.Reading.{seen_in}
use Rattle.snapshot_write.proofs.reading.read_seen.Given as goal

-- the blocks so far are as their entities are shown, and there are at most as many as a snapshot shows
abbrev pub invariant-loop-block : goal.invariant-loop-block
invariant-loop-block l = record {
  entities : l.seen ≡ map seen_in (take l.block-index l.blocks);
  right : list_any has_wrong_field (take l.block-index l.blocks) ≡ false;
  few : l.block-index ≤ MOST_SEEN;
}
