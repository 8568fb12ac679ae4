-- Frames of the plain server: the tick, the receive pass, the moves of a journal, one after another, and the leaves.
use Rattle.std.specs.Prelude.{ℕ, ◌+◌, List, [], ◌∷◌, ⊤}
use Rattle.entity_recs.specs.declared.effect.Entry.{Entry}
use Rattle.entity_recs.specs.Histories.{run}
use Rattle.move_journal.specs.Merges.{history_of, IsRight, IsInOrder, journal_in_order}
use Rattle.arena_map.specs.Maps.{MapView}
use Rattle.arena_outcomes.specs.Outcomes.{outcome_on}
use Rattle.world_physics.specs.Ticks.{after_tick}
use Rattle.packet_read.specs.declared.arrival.Arrival.{Arrival}
use Rattle.client_ports.specs.States.{State, state_of}
use Rattle.client_ports.specs.Receiving.{Receiving, received}
use Rattle.client_ports.specs.Finishing.{finished}
use Rattle.plain_server.specs.RecordsById.{world_of, records_in}

-- the state after the tick of a frame, with which the frame begins: the clients are as they were
abbrev pub state_after_tick : MapView → ℕ → State → State
state_after_tick map frame state = state_of state.clients (after_tick map frame state.records)

-- what the arrivals of a frame come to, in the state after its tick
-- The tick is a part of it, so each definition that begins a frame cites one name.
abbrev pub received_in : MapView → ℕ → State → List Arrival → Receiving
received_in map frame state arrivals = received map frame (state_after_tick map frame state) arrivals

-- the state after the moves of a journal, which the replies of the frame show: those that leave are still there
-- A frame has two states at its end, this one for its replies and the next for the frame after it, so a player that
-- leaves is shown once more, in the frame in which it leaves.
abbrev pub moved_by : MapView → Receiving → List Entry → State
moved_by map r journal =
    state_of r.state.clients
    (records_in (run (outcome_on map) (world_of r.state.records) (history_of r.lists.moves journal)) r.state.records)

-- the state for the next frame: those that leave are gone
abbrev pub state_after : MapView → Receiving → List Entry → State
state_after map r journal = finished (moved_by map r journal)

-- a right journal of what was received
abbrev pub IsRightAfter : MapView → Receiving → List Entry → Type 0
IsRightAfter map r journal = IsRight (outcome_on map) (world_of r.state.records) r.lists.moves journal

-- the first journal, and those of the frames after it
abbrev pub first_of : List (List Entry) → List Entry
first_of [] = []
first_of (j ∷ js) = j

abbrev pub rest_of : List (List Entry) → List (List Entry)
rest_of [] = []
rest_of (j ∷ js) = js

-- the state after frames, the first of which has this number, with these journals
abbrev pub state_played : MapView → ℕ → State → List (List Arrival) → List (List Entry) → State
state_played map frame state [] journals = state
state_played map frame state (arrivals ∷ frames) journals =
    let r = received_in map frame state arrivals in
    state_played map (frame + 1) (state_after map r (first_of journals)) frames (rest_of journals)

-- there is one journal a frame, and each is right
abbrev pub AreRight : MapView → ℕ → State → List (List Arrival) → List (List Entry) → Type 0
AreRight map frame state [] [] = ⊤
AreRight map frame state [] (j ∷ js) = ⊥
AreRight map frame state (arrivals ∷ frames) [] = ⊥
AreRight map frame state (arrivals ∷ frames) (j ∷ js) =
    let r = received_in map frame state arrivals in
    IsRightAfter map r j × AreRight map (frame + 1) (state_after map r j) frames js

-- there is one journal a frame, and each has the moves in the order of arrival
abbrev pub AreInOrder : MapView → ℕ → State → List (List Arrival) → List (List Entry) → Type 0
AreInOrder map frame state [] [] = ⊤
AreInOrder map frame state [] (j ∷ js) = ⊥
AreInOrder map frame state (arrivals ∷ frames) [] = ⊥
AreInOrder map frame state (arrivals ∷ frames) (j ∷ js) =
    let r = received_in map frame state arrivals in
    IsInOrder j r.lists.moves × AreInOrder map (frame + 1) (state_after map r j) frames js

-- ---- moves in the order of arrival

-- the journal of a frame
abbrev pub journal_of : MapView → Receiving → List Entry
journal_of map r = journal_in_order (outcome_on map) (world_of r.state.records) r.lists.moves

-- the journals of frames, the first of which has this number
abbrev pub journals_of : MapView → ℕ → State → List (List Arrival) → List (List Entry)
journals_of map frame state [] = []
journals_of map frame state (arrivals ∷ frames) =
    let r = received_in map frame state arrivals in
    journal_of map r ∷ journals_of map (frame + 1) (state_after map r (journal_of map r)) frames
