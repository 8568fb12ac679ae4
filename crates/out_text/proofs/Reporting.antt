-- Right journals can be read back: their entries have their places, and are in range.
use Rattle.std.proofs.Common.{ℕ, ◌+◌, List, [], ◌∷◌, All}
use Rattle.std.specs.List.{AllByRecursion}
use Rattle.entity_recs.specs.declared.effect.Entry.{Entry}
use Rattle.arena_map.specs.Maps.{MapView, IsMap}
use Rattle.packet_read.specs.declared.arrival.Arrival.{Arrival}
use Rattle.client_ports.specs.States.{State, IsServerState}
use Rattle.plain_server.specs.Entries.{HasBytes}
use Rattle.plain_server.specs.Frames.{state_after_tick, received_in, state_after, AreRight}
use Rattle.plain_server.proofs.Small.{numbers_are_small}
use Rattle.plain_server.proofs.Reports.{right_is_reported}
use Rattle.plain_server.proofs.Frames.{received_is, state_after_is}
use Rattle.out_text.proofs.ReadBack.{AreAllReported}

-- each byte of each packet of the frames is below 256
abbrev pub HaveBytes : List (List Arrival) → Type 0
HaveBytes frames = AllByRecursion (λ arrivals. All HasBytes arrivals) frames

-- the entries of right journals have their places, and are in range
pub right_are_reported : (arena : MapView) (frame : ℕ) (s : State) (frames : List (List Arrival)) (js : List (List Entry)) → IsMap arena → IsServerState arena s → HaveBytes frames
    → AreRight arena frame s frames js → AreAllReported js
right_are_reported arena frame s [] [] is_map is bytes right = tt
right_are_reported arena frame s [] (j ∷ js) is_map is bytes right = absurd right
right_are_reported arena frame s (arrivals ∷ frames) [] is_map is bytes right = absurd right
right_are_reported arena frame s (arrivals ∷ frames) (j ∷ js) is_map is bytes right =
    let r = received_in arena frame s arrivals in
    let pass = received_is arena frame s arrivals is_map is in (
      right_is_reported arena r j is_map pass (numbers_are_small arena frame (state_after_tick arena frame s) arrivals bytes.0) right.0,
      right_are_reported arena (frame + 1) (state_after arena r j) frames js is_map (state_after_is arena r j is_map pass) bytes.1 right.1,
    )
