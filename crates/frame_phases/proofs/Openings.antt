-- The server before the first frame.
use Rattle.std.proofs.Common.{◌≡◌, sym, ap, ◌∙◌, subst}
use Rattle.arena_map.specs.Maps.{MapView, IsMap}
use Rattle.client_ports.specs.States.{State, IsServerState}
use Rattle.plain_server.specs.RecordsById.{opening}
use Rattle.plain_server.proofs.Frames.{opening_is}
use Rattle.frame_phases.specs.Servers.{IsServer}

-- a server whose state is the opening one
pub first_server : (map one : MapView) (state : State) → one ≡ map → IsMap map → state ≡ opening one → IsServer map state
first_server map one state one_is is_map is = record {
  is_map = is_map;
  fits = subst (IsServerState map) (sym (is ∙ ap opening one_is)) (opening_is map is_map);
}
