-- What an entry of a right journal keeps to, so that the line that reports it is read back.
use Rattle.std.specs.Prelude.{◌≡◌, ℕ, ◌+◌, ◌<◌, ◌≤◌, ◌^◌, List, [], ◌∷◌, length, All}
use Rattle.std.specs.List.{AllByRecursion}
use Rattle.std.specs.List.Sorted.{IsStrictlyIncreasing}
use Rattle.arena_geo.specs.Vectors.{IsNear}
use Rattle.entity_recs.specs.declared.effect.Entry.{Entry}
use Rattle.move_journal.specs.Merges.{HasNumbersApart}
use Rattle.arena_map.specs.Maps.{MapView}
use Rattle.packet_read.specs.declared.arrival.Arrival.{Arrival}
use Rattle.client_ports.specs.States.{IsServerState}
use Rattle.client_ports.specs.Receiving.{Receiving}
use Rattle.plain_server.specs.Moving.{HasLivePlayer}

-- a list of at most 8 ids, each of 16 bits, in rising order, so that none is there twice
pub record AreFewIds (ids : List ℕ) : Type 0 where
  pub few : length ids ≤ 8
  pub rising : IsStrictlyIncreasing ids
  pub small : AllByRecursion (λ id. id < 2 ^ 16) ids

-- the entry has its place, a player's slot and a number of 32 bits, its player is near, and it got a few ids, which rise
pub record IsReported (place : ℕ) (e : Entry) : Type 0 where
  pub place_is : e.place ≡ place
  pub slot : e.slot < 64
  pub seq : e.seq < 2 ^ 32
  pub origin : IsNear 1048576 e.reply.origin
  pub got : AreFewIds e.reply.got

-- the entries do, the first of which has this place
abbrev pub AreReported : ℕ → List Entry → Type 0
AreReported place [] = Unit {0}
AreReported place (e ∷ journal) = IsReported place e × AreReported (place + 1) journal

-- what is received in a frame: the state fits the map, and the moves are those of live players, with their numbers
-- apart
pub record IsReception (map : MapView) (r : Receiving) : Type 0 where
  pub state : IsServerState map r.state
  pub live : All (HasLivePlayer r.state.records) r.lists.moves
  pub apart : HasNumbersApart r.lists.moves

-- each byte of the packet is below 256
abbrev pub HasBytes : Arrival → Type 0
HasBytes a = All (λ b. b < 2 ^ 8) a.bytes
