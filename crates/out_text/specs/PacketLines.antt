-- What the `no` and `joined` lines of a frame say of its packets.
use Rattle.std.specs.Prelude.{◌≡◌, ℕ, ◌+◌, ◌-◌, ◌*◌, ◌<◌, ◌≤◌, List, [], ◌∷◌, length, map, flat_map, count_by, All}
use Rattle.std.specs.Prelude.{Some, slice_get}
use Rattle.std.specs.List.Sorted.{IsStrictlyIncreasing}
use Rattle.entity_recs.specs.Commands.{Command}
use Rattle.packet_read.specs.Reading.{reading}
use Rattle.packet_read.specs.declared.arrival.Arrival.{Arrival}
use Rattle.client_ports.specs.declared.received.Refused.{Refused}
use Rattle.client_ports.specs.declared.received.Joined.{Joined}
use Rattle.client_ports.specs.Lists.{Lists}
use Rattle.client_ports.specs.States.{State}
use Rattle.client_ports.specs.Receiving.{Receiving}
use Rattle.client_ports.specs.Frames.{leaver_count, is_some_move, command_count, HaveFewMoves}
use Rattle.out_text.specs.OutLines.{OutLine, FrameLine, FromLine, NoLine, JoinedLine, DidLine, ToLine, EndLine}

-- what the `no` lines among lines say, in their order
abbrev pub refusals_in : List OutLine → List Refused
refusals_in [] = []
refusals_in (FrameLine frame ∷ lines) = refusals_in lines
refusals_in (FromLine port bytes ∷ lines) = refusals_in lines
refusals_in (NoLine place why ∷ lines) = record { place = place; why = why } ∷ refusals_in lines
refusals_in (JoinedLine port slot ∷ lines) = refusals_in lines
refusals_in (DidLine did ∷ lines) = refusals_in lines
refusals_in (ToLine slot bytes ∷ lines) = refusals_in lines
refusals_in (EndLine frames ∷ lines) = refusals_in lines

-- what the `joined` lines among lines say, in their order
abbrev pub joins_in : List OutLine → List Joined
joins_in [] = []
joins_in (FrameLine frame ∷ lines) = joins_in lines
joins_in (FromLine port bytes ∷ lines) = joins_in lines
joins_in (NoLine place why ∷ lines) = joins_in lines
joins_in (JoinedLine port slot ∷ lines) = record { port = port; slot = slot } ∷ joins_in lines
joins_in (DidLine did ∷ lines) = joins_in lines
joins_in (ToLine slot bytes ∷ lines) = joins_in lines
joins_in (EndLine frames ∷ lines) = joins_in lines

-- the place of a refused packet
abbrev pub place_of : Refused → ℕ
place_of t = t.place

-- the packet has one command at the most, as each of version 1 does
abbrev pub HasOneCommandAtMost : Arrival → Type 0
HasOneCommandAtMost a = command_count (reading a.bytes) ≤ 1

-- how many more clients leave after the packets than before them
abbrev pub new_leavers : State → Receiving → ℕ
new_leavers before r = leaver_count r.state.clients - leaver_count before.clients

-- each packet has one answer: its `no` line, its `joined` line, moves, or a leave, of which no line says anything; those
-- that are refused are listed in the order of arrival and give no moves, and the moves are those that the others give:
-- each at most as many as it has commands, so at most 3, and at most one where it has one
pub record HasOneAnswerEach (arrivals : List Arrival) (given : List (List Command)) (leavers : ℕ) (lists : Lists)
    (lines : List OutLine) : Type 0 where
  pub refusals : refusals_in lines ≡ lists.refused
  pub joins : joins_in lines ≡ lists.joined
  pub rising : IsStrictlyIncreasing (map place_of (refusals_in lines))
  pub within : All (λ place. place < length arrivals) (map place_of (refusals_in lines))
  pub none : All (λ place. slice_get given place ≡ Some []) (map place_of (refusals_in lines))
  pub moves : flat_map (λ moves. moves) given ≡ lists.moves
  pub each : HaveFewMoves given arrivals
  pub answers : length (refusals_in lines) + length (joins_in lines) + count_by is_some_move given + leavers
      ≡ length arrivals
  pub few : length lists.moves ≤ 3 * count_by is_some_move given
  pub singles : All HasOneCommandAtMost arrivals
      → length (refusals_in lines) + length (joins_in lines) + length lists.moves + leavers ≡ length arrivals
