use Rattle.std.proofs.Common.{◌≡◌, ◌+◌, drop}
use Rattle.world_tree.specs.Live.{place_in}
use Rattle.world_tree.proofs.live_ids.place_of.Given as goal

abbrev pub invariant-loop-place : goal.invariant-loop-place
invariant-loop-place l = place_in l.ids l.id ≡ l.place + place_in (drop l.place l.ids) l.id
