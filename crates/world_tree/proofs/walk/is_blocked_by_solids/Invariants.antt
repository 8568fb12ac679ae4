use Rattle.std.proofs.Common.{◌≡◌, false, take}
use Rattle.std.specs.List.{list_any}
use Rattle.world_tree.specs.Walks as walks
use Rattle.world_tree.proofs.walk.is_blocked_by_solids.Given as goal

abbrev pub invariant-loop-place : goal.invariant-loop-place
invariant-loop-place l = list_any (walks.is_in_the_way l.body l.except) (take l.place-index l.records) ≡ false
