-- The sequence numbers of a slot's moves, from frame to frame.
use Rattle.std.specs.Prelude.{◌≡◌, ℕ, ◌<◌, ◌≤◌, false, List, Some, Contains, slice_get}
use Rattle.entity_recs.specs.declared.effect.Entry.{Entry}
use Rattle.arena_map.specs.Maps.{MapView, IsMap}
use Rattle.packet_read.specs.declared.arrival.Arrival.{Arrival}
use Rattle.client_ports.specs.declared.client.Client.{Client}
use Rattle.client_ports.specs.Clients.{client_at}
use Rattle.client_ports.specs.Frames.{numbers_of}
use Rattle.client_ports.specs.Receiving.{Receiving}
use Rattle.plain_server.specs.Laws.{received_at}

-- after the packets of a frame the slot has a client, and it doesn't leave
pub record HasClientThatStays (slot : ℕ) (r : Receiving) : Type 0 where
  pub client : Client
  pub in_slot : client_at r.state.clients slot ≡ Some client
  pub stays : client.leaves ≡ false

-- the slot has such a client in each of these frames: the first, and those after it up to the later one, which isn't
-- among them
abbrev pub HasOneClient : MapView → List (List Arrival) → List (List Entry) → ℕ → ℕ → ℕ → Type 0
HasOneClient map frames journals slot first later =
    (number : ℕ) (arrivals : List Arrival) → first ≤ number → number < later → slice_get frames number ≡ Some arrivals
    → HasClientThatStays slot (received_at map frames journals number arrivals)

-- a move of the slot with this sequence number is accepted in the frame with this number
pub record IsAcceptedIn (map : MapView) (frames : List (List Arrival)) (journals : List (List Entry)) (slot number seq : ℕ) : Type 0 where
  pub arrivals : List Arrival
  pub of_frame : slice_get frames number ≡ Some arrivals
  pub accepted : Contains (numbers_of slot (received_at map frames journals number arrivals).lists.moves) seq

-- the sequence numbers that are accepted since a join rise from frame to frame: as long as a slot's client stays, each
-- one of a later frame is above each one of an earlier one, whatever frames without a move are between them
abbrev pub NumbersRiseAcrossFrames : Type 0
NumbersRiseAcrossFrames =
    (map : MapView) (frames : List (List Arrival)) (journals : List (List Entry)) (slot first later seq above : ℕ)
    → IsMap map → first < later → HasOneClient map frames journals slot first later
    → IsAcceptedIn map frames journals slot first seq → IsAcceptedIn map frames journals slot later above
    → seq < above
