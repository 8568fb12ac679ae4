-- A server between frames.
use Rattle.std.specs.Prelude.{ℕ, ◌+◌, List}
use Rattle.entity_recs.specs.declared.effect.Entry.{Entry}
use Rattle.arena_map.specs.Maps.{MapView, IsMap}
use Rattle.packet_read.specs.declared.arrival.Arrival.{Arrival}
use Rattle.client_ports.specs.States.{State, IsServerState}
use Rattle.plain_server.specs.RecordsById.{opening}
use Rattle.plain_server.specs.Frames.{received_in, state_after}

-- its map, its state, and how many frames were run
pub record ServerView : Type 0 where
  pub map : MapView
  pub state : State
  pub frames : ℕ

-- the server with these parts
abbrev pub server_view : MapView → State → ℕ → ServerView
server_view map state frames = record { map = map; state = state; frames = frames }

-- before the first frame
-- A server asks for no spawn: a recording without frames needs none, and on such a map each join is `Crowded`.
abbrev pub new_server : MapView → ServerView
new_server map = server_view map (opening map) 0

-- after a frame with these packets and this journal
abbrev pub server_after : ServerView → List Arrival → List Entry → ServerView
server_after t arrivals journal =
    server_view t.map (state_after t.map (received_in t.map t.frames t.state arrivals) journal) (t.frames + 1)

-- what holds of a server: its state is one of the map
pub record IsServer (map : MapView) (state : State) : Type 0 where
  pub is_map : IsMap map
  pub fits : IsServerState map state
