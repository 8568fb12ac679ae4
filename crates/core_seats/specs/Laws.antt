-- What is known of each view of a core that stands.
use Rattle.std.specs.Prelude.{ℕ, List}
use Rattle.areanode.specs.Trees.{IsTreeDepth}
use Rattle.entity_recs.specs.Worlds.{World}
use Rattle.entity_recs.specs.Histories.{Item}
use Rattle.core_steps.specs.Nodes.{Fixed}
use Rattle.core_steps.specs.Stands.{IsLawful, IsStart}
use Rattle.core_steps.specs.Machine.{Machine, MachineStands}
use Rattle.core_seats.specs.Sound.{IsSound}

-- each view of a machine that stands is sound
abbrev pub StandingViewsAreSound : Type 0
StandingViewsAreSound =
    (F : Fixed) (m : Machine) (history : List Item) (now : World) (i : ℕ) → IsLawful F → IsStart F
    → MachineStands F m history now → IsTreeDepth F.tree.depth → IsSound F (m.core.view i)
