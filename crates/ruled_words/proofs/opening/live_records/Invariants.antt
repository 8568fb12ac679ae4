use Rattle.std.proofs.Common.{◌≡◌, take}
use Rattle.std.specs.Prelude.{All}
use Rattle.std.specs.List.{filter_map}
use Rattle.world_tree.specs.Live.{ids_of}
use Rattle.world_tree.specs.Worlds.{record_of}
use Rattle.ruled_words.specs.Numbers.{HasSmallNumbers}
use Rattle.ruled_words.proofs.opening.live_records.Given as goal

-- the records of the ids so far
abbrev pub invariant-loop-id : goal.invariant-loop-id
invariant-loop-id l = record {
  so_far : l.records.items ≡ filter_map (record_of l.world) (take l.id-index (ids_of l.world.records));
  small : All HasSmallNumbers l.records.items;
}
