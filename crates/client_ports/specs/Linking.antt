-- What the packets of a frame and its end change in the linked world.
use Rattle.std.specs.Prelude.{◌≡◌, ◌⊎◌, ℕ, List, [], ◌∷◌, ◌++◌, filter, fold, Option, Some, None, if◌then◌else◌}
use Rattle.std.specs.List.{filter_map, range_with_len}
use Rattle.entity_recs.specs.declared.rec.Rec.{Rec}
use Rattle.world_tree.specs.Live.{record_at}
use Rattle.world_tree.specs.Worlds.{WorldView, record_of, with_record, without_id}
use Rattle.client_ports.specs.declared.client.Client.{Client}
use Rattle.client_ports.specs.declared.received.Joined.{Joined}
use Rattle.client_ports.specs.Clients.{client_at}
use Rattle.client_ports.specs.Finishing.{is_leaver}

-- ---- the packets

-- the records of players that joined, in the order of their joins
abbrev pub players_of : List (Option Rec) → List Joined → List Rec
players_of records joined = filter_map (λ j. record_at records j.slot) joined

-- one player more joined, whose id wasn't live: its record is put in
pub record HasNewPlayer (w next : WorldView) (joined all : List Joined) : Type 0 where
  pub player : Joined
  pub r : Rec
  pub joins : all ≡ joined ++ player ∷ []
  pub own_id : r.id ≡ player.slot
  pub free : record_of w player.slot ≡ None
  pub live : record_of next player.slot ≡ Some r
  pub world : next ≡ with_record w r

-- the world after a packet: as it was where nobody joined, and else with one player more
abbrev pub IsWorldAfter : WorldView → WorldView → List Joined → List Joined → Type 0
IsWorldAfter w next joined all = ((all ≡ joined) × (next ≡ w)) ⊎ HasNewPlayer w next joined all

-- ---- the end of a frame

-- the slots whose clients leave, in rising order
unfoldable pub leavers_of : List (Option Client) → List ℕ
leavers_of clients = filter (λ slot. is_leaver (client_at clients slot)) (range_with_len 0 64)

-- the world without the id of a slot where its client leaves, and else as it was
abbrev pub world_finished_at : Option Client → WorldView → ℕ → WorldView
world_finished_at place w slot = if is_leaver place then without_id w slot else w

-- the world without these ids, taken out one after another
abbrev pub without_ids : WorldView → List ℕ → WorldView
without_ids w ids = fold without_id w ids
