-- What the packets of a frame have come to, as lists.
use Rattle.std.specs.Prelude.{ℕ, ◌*◌, ◌<◌, ◌≤◌, min, List, [], ◌∷◌, ◌++◌, length}
use Rattle.entity_recs.specs.Commands.{Command}
use Rattle.client_ports.specs.declared.received.Joined.{Joined}
use Rattle.client_ports.specs.declared.received.Refused.{Refused}
use Rattle.client_ports.specs.declared.refusal.Refusal.{Refusal}

-- the accepted moves, the joins and the refusals, each in the order of arrival
pub record Lists : Type 0 where
  pub moves : List Command
  pub joined : List Joined
  pub refused : List Refused

-- the lists with these parts
abbrev pub lists_of : List Command → List Joined → List Refused → Lists
lists_of moves joined refused = record { moves = moves; joined = joined; refused = refused }

-- nothing
abbrev pub no_lists : Lists
no_lists = lists_of [] [] []

-- the lists with these moves more
abbrev pub with_moves : Lists → List Command → Lists
with_moves l moves = lists_of (l.moves ++ moves) l.joined l.refused

-- the lists with one join more
abbrev pub with_join : Lists → ℕ → ℕ → Lists
with_join l port slot = lists_of l.moves (l.joined ++ record { port = port; slot = slot } ∷ []) l.refused

-- the lists with one refusal more
abbrev pub with_refusal : Lists → ℕ → Refusal → Lists
with_refusal l place why = lists_of l.moves l.joined (l.refused ++ record { place = place; why = why } ∷ [])

-- how many moves, joins and refusals there is room for
pub record Room : Type 0 where
  pub moves : ℕ
  pub joined : ℕ
  pub refused : ℕ

-- how many moves so many packets of a frame can give: 3 each, and 8 for each of 64 slots
abbrev pub most_moves : ℕ → ℕ
most_moves packets = min (3 * packets) 512

-- the room for all that so many packets of a frame can give
-- Three numbers, since a packet may give three moves; a frame never has more than 512 moves, 8 for each of 64 slots.
abbrev pub room_for : ℕ → Room
room_for packets = record { moves = most_moves packets; joined = packets; refused = packets }

-- the lists, and the room of each
pub record ReceivedView : Type 0 where
  pub lists : Lists
  pub room : Room

-- the lists with this room
abbrev pub received_view : Lists → Room → ReceivedView
received_view lists room = record { lists = lists; room = room }

-- the room is enough for so many packets of a frame
pub record IsRoomFor (packets : ℕ) (room : Room) : Type 0 where
  pub moves : most_moves packets ≤ room.moves
  pub joined : packets ≤ room.joined
  pub refused : packets ≤ room.refused

-- there is room for one join and one refusal more
pub record HasRoom (r : ReceivedView) : Type 0 where
  pub joined : length r.lists.joined < r.room.joined
  pub refused : length r.lists.refused < r.room.refused
