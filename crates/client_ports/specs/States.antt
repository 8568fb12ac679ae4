-- What the receive pass changes: the clients by slot, and the records by id.
use Rattle.std.specs.Prelude.{◌≡◌, ℕ, ◌<◌, List, length, Option, is_some, slice_set, Some}
use Rattle.arena_geo.specs.declared.vec3.Vec3.{Vec3}
use Rattle.arena_geo.specs.Vectors.{zero_vector}
use Rattle.entity_recs.specs.declared.limits.TheConstants.{IDS}
use Rattle.entity_recs.specs.declared.bodies.TheConstants.{PLAYER_MINS, PLAYER_MAXS}
use Rattle.entity_recs.specs.declared.kind.Kind.TheVariants.{Player}
use Rattle.entity_recs.specs.declared.rec.Rec.{Rec}
use Rattle.arena_map.specs.Maps.{MapView}
use Rattle.arena_map.specs.Validity.{IsValidWorld}
use Rattle.world_tree.specs.Live.{record_at}
use Rattle.client_ports.specs.declared.client.Client.{Client}
use Rattle.client_ports.specs.declared.client.LiveSlot.{LiveSlot}
use Rattle.client_ports.specs.Clients.{client_at, live_slot, new_client, with_client, AreClients}

-- the client of each slot, and the record of each id
pub record State : Type 0 where
  pub clients : List (Option Client)
  pub records : List (Option Rec)

-- the state with these clients and records
abbrev pub state_of : List (Option Client) → List (Option Rec) → State
state_of clients records = record { clients = clients; records = records }

-- the live slots are the live players
pub record HaveSameLive (clients : List (Option Client)) (records : List (Option Rec)) : Type 0 where
  pub same : (slot : ℕ) → slot < 64 → is_some (client_at clients slot) ≡ is_some (record_at records slot)

-- a player that has just joined, with its origin here: everything else is 0
abbrev pub newcomer : ℕ → Vec3 → Rec
newcomer slot at = record {
  id = slot;
  kind = Player;
  origin = at;
  mins = PLAYER_MINS;
  maxs = PLAYER_MAXS;
  vel = zero_vector;
  flags = 0;
  ammo = 0;
  carry = 0;
  score = 0;
  seq = 0;
  state = 0;
}

-- the state with a player that has just joined
abbrev pub with_newcomer : State → ℕ → ℕ → Vec3 → State
with_newcomer state port slot at =
    state_of (with_client state.clients (live_slot slot (new_client port)))
    (slice_set state.records slot (Some (newcomer slot at)))

-- the state with another client in a live slot
abbrev pub with_update : State → LiveSlot → State
with_update state live = state_of (with_client state.clients live) state.records

-- the state fits a map: the live slots are the live players, and the world is valid
pub record IsState (map : MapView) (state : State) : Type 0 where
  pub live : HaveSameLive state.clients state.records
  pub valid : IsValidWorld map state.records

-- a server's state on a map: ports are apart, each id has a place, and the state fits the map
pub record IsServerState (map : MapView) (state : State) : Type 0 where
  pub clients : AreClients state.clients
  pub places : length state.records ≡ IDS
  pub fits : IsState map state
