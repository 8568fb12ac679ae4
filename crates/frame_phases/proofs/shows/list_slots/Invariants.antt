use Rattle.std.proofs.Common.{◌≡◌, ◌≤◌, map, take}
use Rattle.entity_recs.specs.declared.rec.Rec.{Rec}
use Rattle.world_tree.specs.Live.{live_in}
use Rattle.world_tree.specs.Worlds.{IsLinked}
use Rattle.frame_phases.proofs.shows.list_slots.Given as goal

-- the slots so far; the first look at the world says that it is linked
abbrev pub invariant-loop-slot : goal.invariant-loop-slot
invariant-loop-slot l = record {
  so_far : l.slots ≡ map (λ (me : Rec). me.id) (live_in (take l.slot l.world.records));
  linked : 1 ≤ l.slot → IsLinked l.world;
}
