use Rattle.std.proofs.Common.{◌≡◌, ◌++◌, drop}
use Rattle.world_tree.specs.Walks as walks
use Rattle.world_tree.proofs.walk.gather.Given as goal

abbrev pub invariant-loop-id : goal.invariant-loop-id
invariant-loop-id l = record {
  picks : l.out.items ++ walks.picked (drop l.id l.marks) (drop l.id l.records) ≡ walks.picked l.marks l.records;
  room : l.out.room ≡ l.initial.out.room;
}
