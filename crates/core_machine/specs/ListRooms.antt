-- The room in the lists of a core's seats.
use Rattle.std.specs.Prelude.{◌≤◌, List, All}
use Rattle.entity_recs.specs.declared.limits.TheConstants.{IDS}
use Rattle.core_machine.specs.declared.seat.Seat.{Seat}
use Rattle.core_machine.specs.Seats.{things_room}
use Rattle.core_steps.specs.Nodes.{Fixed}
use Rattle.world_tree.specs.Nears.{NearView}
use Rattle.core_machine.specs.Cores.{CoreView, IsCore}

-- the seat has room for the states of all things that there may be
abbrev pub HasThingsRoom : Seat → Type 0
HasThingsRoom s = IDS ≤ things_room s

-- the core stands, each of its seats has room for the states of all things that there may be, and the near list for all
-- records
pub record IsKept {A : Type 0} (F : Fixed) (c : CoreView A) (seats : List Seat) (list : NearView) : Type 0 where
  pub core : IsCore F c
  pub things : All HasThingsRoom seats
  pub near : IDS ≤ list.room
