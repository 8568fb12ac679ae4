-- The clients of the live slots: a list with a place for each slot, which has its client, if the slot is live.
use Rattle.std.specs.Prelude.{◌≡◌, ℕ, ◌<◌, ◌≤◌, Bool, false, List, map, replicate, Option, Some, None, option_map}
use Rattle.std.specs.Prelude.{slice_index_or, slice_set}
use Rattle.entity_slots.specs.Ports as slots
use Rattle.entity_slots.specs.Ports.{AreSlots}
use Rattle.client_ports.specs.declared.client.Client.{Client}
use Rattle.client_ports.specs.declared.client.LiveSlot.{LiveSlot}

-- the client with these parts
abbrev pub client : ℕ → ℕ → Bool → ℕ → Client
client port last leaves moves = record { port = port; last = last; leaves = leaves; moves = moves }

-- a client that has just joined
abbrev pub new_client : ℕ → Client
new_client port = client port 0 false 0

-- nobody is joined
abbrev pub no_clients : List (Option Client)
no_clients = replicate 64 None

-- the client of this slot, if the slot is live
abbrev pub client_at : List (Option Client) → ℕ → Option Client
client_at clients slot = slice_index_or clients slot None

-- the port of a slot
abbrev pub port_of : Option Client → Option ℕ
port_of place = option_map (λ c. c.port) place

-- the ports of the live slots
abbrev pub ports_of : List (Option Client) → List (Option ℕ)
ports_of clients = map port_of clients

-- the live slot with this client
abbrev pub live_slot : ℕ → Client → LiveSlot
live_slot slot c = record { slot = slot; client = c }

-- the slot where it is live, with its client
abbrev pub live_at : List (Option Client) → Option ℕ → Option LiveSlot
live_at clients None = None
live_at clients (Some slot) = option_map (live_slot slot) (client_at clients slot)

-- the slot in which a port is joined, with its client
abbrev pub live_with : List (Option Client) → ℕ → Option LiveSlot
live_with clients port = live_at clients (slots.slot_of (ports_of clients) port)

-- the clients with this one in its slot
abbrev pub with_client : List (Option Client) → LiveSlot → List (Option Client)
with_client clients live = slice_set clients live.slot (Some live.client)

-- there are 64 slots, no port is joined in two of them, and no client has more than 8 moves in a frame
pub record AreClients (clients : List (Option Client)) : Type 0 where
  pub slots : AreSlots (ports_of clients)
  pub few_moves : (slot : ℕ) (c : Client) → client_at clients slot ≡ Some c → c.moves ≤ 8

-- the slots are those of the clients
pub record ArePorts (ports : List (Option ℕ)) (clients : List (Option Client)) : Type 0 where
  pub ports_are : ports ≡ ports_of clients
  pub clients_are : AreClients clients

-- the slot may have this client: it is live with the same port, and the client has few moves
pub record IsUpdate (clients : List (Option Client)) (live : LiveSlot) : Type 0 where
  pub in_range : live.slot < 64
  pub same_port : port_of (client_at clients live.slot) ≡ Some live.client.port
  pub few_moves : live.client.moves ≤ 8

-- the port may be joined in this slot: it isn't joined, and the slot is free
pub record IsSlotFor (clients : List (Option Client)) (port slot : ℕ) : Type 0 where
  pub in_range : slot < 64
  pub free : client_at clients slot ≡ None
  pub not_joined : slots.is_joined (ports_of clients) port ≡ false
