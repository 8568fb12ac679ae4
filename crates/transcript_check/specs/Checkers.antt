-- A checker between two pieces.
use Rattle.std.specs.Prelude.{ℕ}
use Rattle.arena_map.specs.Maps.{MapView, IsMap}
use Rattle.client_ports.specs.States.{State, IsServerState}
use Rattle.plain_server.specs.RecordsById.{opening}
use Rattle.transcript_check.specs.Reading.{InputView}

-- its map, its state, how many frames were right, how many moves they had, and what follows
pub record CheckerView : Type 0 where
  pub map : MapView
  pub state : State
  pub frames : ℕ
  pub moves : ℕ
  pub input : InputView

-- before the first frame
abbrev pub new_checker : MapView → InputView → CheckerView
new_checker map input = record { map = map; state = opening map; frames = 0; moves = 0; input = input }

-- the checker, before other input
abbrev pub with_input : CheckerView → InputView → CheckerView
with_input c input = record { map = c.map; state = c.state; frames = c.frames; moves = c.moves; input = input }

-- what holds of a checker: its state is one of the map
pub record IsChecker (map : MapView) (state : State) : Type 0 where
  pub is_map : IsMap map
  pub fits : IsServerState map state
