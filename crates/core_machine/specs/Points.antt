-- What a seat has left to do, as the point of the definitions.
use Rattle.std.specs.Prelude.{ℕ, ◌≡◌, [], map}
use Rattle.core_steps.specs.Cells as cells
use Rattle.core_steps.specs.Points as core_points
use Rattle.core_machine.specs.declared.point.Cell.{Cell}
use Rattle.core_machine.specs.declared.point.Cell.TheVariants.{Body, State}
use Rattle.core_machine.specs.declared.point.Store.{Store}
use Rattle.core_machine.specs.declared.point.Store.TheVariants.{Clear, Put, Link}
use Rattle.core_machine.specs.declared.point.Queues.{Queues}
use Rattle.core_machine.specs.declared.point.Point.{Point}
use Rattle.core_machine.specs.declared.point.Point.TheVariants.{Idle, Owning, Taking, Checking, Entering, Entered}
use Rattle.core_machine.specs.declared.point.Point.TheVariants.{Loading, Leaving, Sensing, Resolving, Claiming, Storing}
use Rattle.core_machine.specs.declared.point.Point.TheVariants.{Releasing, Returning, Yielding}

-- the lists are empty, with room for the states of so many things
pub record AreEmpty (room : ℕ) (qs : Queues) : Type 0 where
  pub got : qs.got.items ≡ []
  pub rest : qs.rest.items ≡ []
  pub plan : qs.plan.items ≡ []
  pub part : qs.part.items ≡ []
  pub players : qs.players.items ≡ []
  pub things : qs.things ≡ record { room = room; states = []; ids = [] }
  pub stores : qs.stores.items ≡ []

-- the cell of the definitions
abbrev pub cell_in : Cell → cells.Cell
cell_in (Body slot k) = cells.Body slot k
cell_in (State id) = cells.State id

-- the store of the definitions
abbrev pub store_of : Store → core_points.Store
store_of (Clear node) = core_points.Clear node
store_of (Put cell x) = core_points.Put (cell_in cell) x
store_of (Link node) = core_points.Link node

-- the point of the definitions, with the lists that it speaks of
abbrev pub point_of : Queues → Point → core_points.Point
point_of qs Idle = core_points.Idle
point_of qs Owning = core_points.Owning
point_of qs Taking = core_points.Taking qs.got.items qs.rest.items
point_of qs Checking = core_points.Checking
point_of qs (Entering node) = core_points.Entering node qs.plan.items
point_of qs (Entered node) = core_points.Entered node qs.plan.items
point_of qs (Loading node) = core_points.Loading node qs.part.items qs.players.items qs.plan.items
point_of qs (Leaving node) = core_points.Leaving node qs.plan.items
point_of qs Sensing = core_points.Sensing qs.things.ids
point_of qs Resolving = core_points.Resolving
point_of qs Claiming = core_points.Claiming qs.got.items qs.rest.items
point_of qs Storing = core_points.Storing qs.got.items (map store_of qs.stores.items)
point_of qs Releasing = core_points.Releasing qs.got.items
point_of qs Returning = core_points.Returning qs.rest.items
point_of qs Yielding = core_points.Yielding qs.got.items qs.rest.items
