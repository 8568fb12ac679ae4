-- The end of a frame: the clients that leave are taken out, and the others begin the next frame with no move.
use Rattle.std.specs.Prelude.{ℕ, zero, suc, Bool, false, List, Option, Some, None, if◌then◌else◌, slice_set}
use Rattle.entity_recs.specs.declared.rec.Rec.{Rec}
use Rattle.client_ports.specs.declared.client.Client.{Client}
use Rattle.client_ports.specs.Clients.{client, client_at}
use Rattle.client_ports.specs.States.{State, state_of}

-- the client of a slot leaves
abbrev pub is_leaver : Option Client → Bool
is_leaver None = false
is_leaver (Some c) = c.leaves

-- the client of a slot after the frame
abbrev pub finished_client : Option Client → Option Client
finished_client None = None
finished_client (Some c) = if c.leaves then None else Some (client c.port c.last c.leaves 0)

-- the records without that of a slot whose client leaves
abbrev pub records_after : Option Client → List (Option Rec) → ℕ → List (Option Rec)
records_after place records slot = if is_leaver place then slice_set records slot None else records

-- the state after the end of the frame for one slot
abbrev pub finished_at : State → ℕ → State
finished_at state slot = state_of
    (slice_set state.clients slot (finished_client (client_at state.clients slot)))
    (records_after (client_at state.clients slot) state.records slot)

-- the state after the end of the frame for the first slots
unfoldable pub finished_up_to : State → ℕ → State
finished_up_to state zero = state
finished_up_to state (suc slot) = finished_at (finished_up_to state slot) slot

-- the state after the end of the frame
unfoldable pub finished : State → State
finished state = finished_up_to state 64
