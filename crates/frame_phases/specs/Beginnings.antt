-- The two states of a server, and how a frame begins on them.
use Rattle.std.specs.Prelude.{◌≡◌, ℕ}
use Rattle.arena_actions.specs.MapActions.{map_in, IsOfItsMap}
use Rattle.arena_actions.specs.declared.map_action.MapAction.{MapAction}
use Rattle.packet_read.specs.declared.arrival.TheConstants.{MOST_ARRIVALS}
use Rattle.client_ports.specs.States.{state_of}
use Rattle.client_ports.specs.Lists.{ReceivedView, no_lists, room_for}
use Rattle.move_phase.specs.Starting.{StartedView}
use Rattle.frame_phases.specs.Servers.{IsServer}
use Rattle.frame_phases.specs.declared.phases.States.{States}

-- the state is one of the action's map, of which it means what it says, and both states have one tree
pub record AreStatesOf (action : MapAction) (s : States) : Type 0 where
  pub server : IsServer (map_in action) (state_of s.state.ports s.state.world.records)
  pub tree : s.next.world.tree ≡ s.state.world.tree
  pub of_its_map : IsOfItsMap action

-- the lists are empty, and have room for all that a frame's packets can give
pub record MayReceive (received : ReceivedView) : Type 0 where
  pub empty : received.lists ≡ no_lists
  pub room : received.room ≡ room_for MOST_ARRIVALS

-- the moves are started for this action, on so many workers
pub record IsStartedFor (action : MapAction) (workers : ℕ) (started : StartedView) : Type 0 where
  pub action_is : started.action ≡ action
  pub workers_are : started.workers ≡ workers

-- the state and the number of frames are as before, and the other state has the state's tree
pub record KeepsState (old new : States) : Type 0 where
  pub state : new.state ≡ old.state
  pub frames : new.frames ≡ old.frames
  pub tree : new.next.world.tree ≡ new.state.world.tree
