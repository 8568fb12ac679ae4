-- Totals, counted over the lines of an output and over the slots of a state.
use Rattle.std.specs.Prelude.{◌≡◌, ℕ, List, [], ◌∷◌, nat_le, length, sum_by, count_by, is_some, if◌then◌else◌}
use Rattle.world_tree.specs.Live.{record_at}
use Rattle.client_ports.specs.Clients.{client_at}
use Rattle.client_ports.specs.States.{State}
use Rattle.frame_phases.specs.Scores.{score_at}
use Rattle.out_text.specs.Dids.{Did}
use Rattle.out_text.specs.OutLines.{OutLine, FrameLine, FromLine, NoLine, JoinedLine, DidLine, ToLine, EndLine}
use Rattle.out_text.specs.PacketLines as packet_lines
use Rattle.match_play.specs.declared.totals.Totals.{Totals}

-- what the `did` lines among lines report, in their order
abbrev pub dids_in : List OutLine → List Did
dids_in [] = []
dids_in (FrameLine frame ∷ lines) = dids_in lines
dids_in (FromLine port bytes ∷ lines) = dids_in lines
dids_in (NoLine place why ∷ lines) = dids_in lines
dids_in (JoinedLine port slot ∷ lines) = dids_in lines
dids_in (DidLine did ∷ lines) = did ∷ dids_in lines
dids_in (ToLine slot bytes ∷ lines) = dids_in lines
dids_in (EndLine frames ∷ lines) = dids_in lines

-- the numbers of the `frame` lines among lines, in their order
abbrev pub frames_in : List OutLine → List ℕ
frames_in [] = []
frames_in (FrameLine frame ∷ lines) = frame ∷ frames_in lines
frames_in (FromLine port bytes ∷ lines) = frames_in lines
frames_in (NoLine place why ∷ lines) = frames_in lines
frames_in (JoinedLine port slot ∷ lines) = frames_in lines
frames_in (DidLine did ∷ lines) = frames_in lines
frames_in (ToLine slot bytes ∷ lines) = frames_in lines
frames_in (EndLine frames ∷ lines) = frames_in lines

-- how many items a move got: the ids of 64 and above
abbrev pub items_got : Did → ℕ
items_got d = count_by (λ id. nat_le 64 id) d.got

-- the totals are those of lines: how many `frame`, `joined`, `did` and `no` lines there are, and how many items the
-- `did` lines have
pub record AreTotalsOf (lines : List OutLine) (t : Totals) : Type 0 where
  pub frames : t.frames ≡ length (frames_in lines)
  pub joins : t.joins ≡ length (packet_lines.joins_in lines)
  pub moves : t.moves ≡ length (dids_in lines)
  pub refused : t.refused ≡ length (packet_lines.refusals_in lines)
  pub items : t.items ≡ sum_by items_got (dids_in lines)

-- the score of the player that has this slot, and 0 where no client has it
abbrev pub score_of_slot : State → ℕ → ℕ
score_of_slot state slot =
    if is_some (client_at state.clients slot) then score_at (record_at state.records slot) else 0
