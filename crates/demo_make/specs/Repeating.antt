-- What a server makes of a recording in which commands are resent: each command is accepted once, although packets are
-- lost.
use Rattle.std.specs.Prelude.{◌≡◌, ℕ, zero, suc, ◌+◌, ◌-◌, ◌%◌, ◌^◌, ◌≤◌, ◌<◌, ◌==◌, List, [], map, filter, length}
use Rattle.std.specs.Prelude.{flat_map, Option, if◌then◌else◌}
use Rattle.std.specs.List.{range_with_len}
use Rattle.entity_recs.specs.declared.limits.TheConstants.{IDS}
use Rattle.entity_recs.specs.declared.rec.Rec.{Rec}
use Rattle.entity_recs.specs.Commands.{Command}
use Rattle.packet_read.specs.declared.move_packet.MovePacket.{MovePacket}
use Rattle.packet_read.specs.Commands.{move_with_number}
use Rattle.client_ports.specs.declared.received.Joined.{Joined}
use Rattle.client_ports.specs.States.{State, state_of}
use Rattle.client_ports.specs.Receiving.{Receiving, received}
use Rattle.client_ports.specs.Receiving as receiving
use Rattle.client_ports.specs.Finishing.{finished}
use Rattle.demo_make.specs.GeneratedMap.{generated_map}
use Rattle.demo_make.specs.ResentFrames.{command_in, arrives, resent_in}
use Rattle.demo_make.specs.Accepting.{ArePlaying, ArePlayingUpTo, AreClearOfSpawns}

-- ---- the commands that come

-- the number of a player's newest command that came before a frame, and 0 where none came: a packet that arrives has
-- that of its frame, which is one more than the frame's own
abbrev pub last_before : ℕ → ℕ → ℕ → ℕ
last_before frames port zero = 0
last_before frames port (suc frame) = if arrives frames frame port then frame + 1 else last_before frames port frame

-- so many commands of a player, from this number on
abbrev pub commands_from : ℕ → ℕ → ℕ → ℕ → ℕ → List MovePacket
commands_from seed players port first count =
    map (λ n. move_with_number n (command_in seed players port (n - 1))) (range_with_len first count)

-- the commands of a player that come in a frame: where its packet arrives all those that didn't come before, up to that
-- of the frame, and else none
abbrev pub new_commands : ℕ → ℕ → ℕ → ℕ → ℕ → List MovePacket
new_commands seed players frames frame port =
    let last = last_before frames port frame in
    if arrives frames frame port then commands_from seed players port (last + 1) (frame + 1 - last) else []

-- the moves of a slot among moves
abbrev pub moves_of : ℕ → List Command → List Command
moves_of slot moves = filter (λ c. c.slot == slot) moves

-- the join of the player in a slot, whose port is one above it
abbrev pub joined_as : ℕ → Joined
joined_as slot = record { port = slot + 1; slot = slot }

-- the joins of a frame: those of all players in frame 0, and none later
abbrev pub joined_in : ℕ → ℕ → List Joined
joined_in players frame = if frame == 0 then map joined_as (range_with_len 0 players) else []

-- ---- a frame

-- no packet of a frame is refused; the joins are those of the frame; the moves of each player are its new commands, in
-- the order of their numbers, with all their fields, and nobody else moves. Whatever the moves make of the records, each
-- player plays on, with the number of its newest command that came
pub record OnlyNewAreAccepted (seed players frames frame : ℕ) (next : Receiving) : Type 0 where
  pub refused : next.lists.refused ≡ []
  pub joined : next.lists.joined ≡ joined_in players frame
  pub moves : (slot : ℕ) → slot < players → moves_of slot next.lists.moves
      ≡ map (receiving.command_in frame slot) (new_commands seed players frames frame (slot + 1))
  pub others : (slot : ℕ) → players ≤ slot → moves_of slot next.lists.moves ≡ []
  pub plays_on : (records : List (Option Rec)) → length records ≡ IDS
      → ArePlayingUpTo players (λ slot. last_before frames (slot + 1) (frame + 1))
      (finished (state_of next.state.clients records)).clients

-- each command of a resent recording is accepted once and in its order: so it is in frame 0, where nobody is joined and
-- nothing is at the spawns, and in each later frame, wherever the players and the things are. Before a frame at most two
-- commands of a player haven't come, and over all frames each comes once
pub record CommandsArriveOnce : Type 0 where
  pub first : (seed players frames : ℕ) (state : State) → players ≤ 64 → ArePlaying 0 0 state.clients
      → length state.records ≡ IDS → AreClearOfSpawns state.records
      → OnlyNewAreAccepted seed players frames 0 (received generated_map 0 state (resent_in seed players frames 0))
  pub later : (seed players frames frame : ℕ) (state : State) → players ≤ 64 → 0 < frame → frame + 1 < 2 ^ 32
      → ArePlayingUpTo players (λ slot. last_before frames (slot + 1) frame) state.clients
      → length state.records ≡ IDS
      → OnlyNewAreAccepted seed players frames frame
      (received generated_map frame state (resent_in seed players frames frame))
  pub before : (frames port frame : ℕ) → frame < frames
      → last_before frames port frame ≡ frame - (frame + port + 2) % 3
  pub each_once : (seed players frames port : ℕ) → 1 ≤ frames
      → flat_map (λ frame. new_commands seed players frames frame port) (range_with_len 0 frames)
      ≡ commands_from seed players port 1 frames
