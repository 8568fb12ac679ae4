-- What a server makes of a generated recording: every packet is accepted.
use Rattle.std.specs.Prelude.{◌≡◌, ℕ, ◌+◌, ◌^◌, ◌≤◌, ◌<◌, true, false, List, [], length, Option, Some, None}
use Rattle.arena_geo.specs.Boxes.{overlaps}
use Rattle.entity_recs.specs.declared.limits.TheConstants.{IDS}
use Rattle.entity_recs.specs.declared.rec.Rec.{Rec}
use Rattle.entity_recs.specs.Bodies.{body_of, player_body}
use Rattle.entity_recs.specs.Kinds.{is_solid}
use Rattle.arena_map.specs.Validity.{IsValidWorld}
use Rattle.world_tree.specs.Live.{record_at}
use Rattle.client_ports.specs.declared.client.Client.{Client}
use Rattle.client_ports.specs.Clients.{client, client_at}
use Rattle.client_ports.specs.States.{State, state_of}
use Rattle.client_ports.specs.Receiving.{Receiving, received}
use Rattle.client_ports.specs.Finishing.{finished}
use Rattle.demo_make.specs.GeneratedMap.{generated_map, spawn_at}
use Rattle.demo_make.specs.GeneratedFrames.{arrivals_in}

-- each of so many players is joined in the slot one below its port, and has the last number that is given for its slot
-- and no move in the frame; nobody else is joined
pub record ArePlayingUpTo (players : ℕ) (last : ℕ → ℕ) (clients : List (Option Client)) : Type 0 where
  pub slots : length clients ≡ 64
  pub joined : (slot : ℕ) → slot < players → client_at clients slot ≡ Some (client (slot + 1) (last slot) false 0)
  pub free : (slot : ℕ) → players ≤ slot → client_at clients slot ≡ None

-- so it is, with one last number for all
abbrev pub ArePlaying : ℕ → ℕ → List (Option Client) → Type 0
ArePlaying players last clients = ArePlayingUpTo players (λ slot. last) clients

-- the record's body overlaps no player's at a spawn
abbrev pub IsClearOfSpawns : Rec → Type 0
IsClearOfSpawns r = (i : ℕ) → i < 64 → overlaps (player_body (spawn_at i)) (body_of r) ≡ false

-- no body of a live solid does
abbrev pub AreClearOfSpawns : List (Option Rec) → Type 0
AreClearOfSpawns records =
    (id : ℕ) (r : Rec) → record_at records id ≡ Some r → is_solid r.kind ≡ true → IsClearOfSpawns r

-- nothing was refused, and there are so many joins and moves
pub record AllAreAccepted (joins moves : ℕ) (next : Receiving) : Type 0 where
  pub refused : next.lists.refused ≡ []
  pub joined : length next.lists.joined ≡ joins
  pub moved : length next.lists.moves ≡ moves

-- a frame with these packets: all are accepted, and whatever the moves make of the records, the players play on
pub record IsPlayed (players joins last : ℕ) (next : Receiving) : Type 0 where
  pub accepted : AllAreAccepted joins players next
  pub plays_on : (records : List (Option Rec)) → length records ≡ IDS
      → ArePlaying players last (finished (state_of next.state.clients records)).clients

-- every join and every move is accepted, in frame 0 where nobody is joined and nothing is at the spawns, and in each
-- later frame wherever the players and the things are
pub record AllIsAccepted : Type 0 where
  pub first : (seed players : ℕ) (state : State) → players ≤ 64 → ArePlaying 0 0 state.clients
      → length state.records ≡ IDS → AreClearOfSpawns state.records
      → IsPlayed players players 1 (received generated_map 0 state (arrivals_in seed players 0))
  pub later : (seed players frame : ℕ) (state : State) → players ≤ 64 → 0 < frame → frame + 1 < 2 ^ 32
      → ArePlaying players frame state.clients → length state.records ≡ IDS
      → IsPlayed players 0 (frame + 1) (received generated_map frame state (arrivals_in seed players frame))

-- in a valid world without players no body of a live solid is at a spawn, wherever the lift is
abbrev pub SpawnsAreClear : Type 0
SpawnsAreClear =
    (records : List (Option Rec)) → IsValidWorld generated_map records
    → ((slot : ℕ) → slot < 64 → record_at records slot ≡ None) → AreClearOfSpawns records
