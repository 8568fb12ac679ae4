-- What comes out of a recording in which commands are resent: no packet is refused, and no command is lost.
use Rattle.std.specs.Prelude.{◌≡◌, ℕ, ◌<◌, ◌≤◌, Bool, true, false, List, [], flat_map, All, Option, Some, None}
use Rattle.std.specs.List.{range_with_len}
use Rattle.edge_io.specs.WholeLines.{whole_lines}
use Rattle.entity_recs.specs.declared.effect.Entry.{Entry}
use Rattle.move_journal.specs.Merges.{reported_numbers}
use Rattle.plain_server.specs.RecordsById.{opening}
use Rattle.plain_server.specs.Frames.{AreRight}
use Rattle.demo_make.specs.GeneratedMap.{generated_map}
use Rattle.demo_make.specs.GeneratedFrames.{IsInRange}
use Rattle.demo_make.specs.ResentFrames.{resent_frames, resent_text}
use Rattle.out_text.specs.OutLines.{OutLine, FrameLine, FromLine, NoLine, JoinedLine, DidLine, ToLine, EndLine}
use Rattle.out_text.specs.Reading.{line_in}
use Rattle.out_text.specs.Journals.{dids}
use Rattle.out_text.specs.Output.{IsOutput}

-- ---- no command is lost

-- the numbers of a slot's moves over all frames, in the order of the journals
abbrev pub numbers_over : ℕ → List (List Entry) → List ℕ
numbers_over slot journals = flat_map (reported_numbers slot) journals

-- each player did its commands from the first to that of the last frame, each once and in their order, and nobody else
-- did any
pub record HasEachCommandOnce (players frames : ℕ) (journals : List (List Entry)) : Type 0 where
  pub each : (slot : ℕ) → slot < players → numbers_over slot journals ≡ range_with_len 1 frames
  pub others : (slot : ℕ) → players ≤ slot → numbers_over slot journals ≡ []

-- ---- no packet is refused

-- what was read is a `no` line
abbrev pub is_no_line : Option OutLine → Bool
is_no_line None = false
is_no_line (Some (FrameLine frame)) = false
is_no_line (Some (FromLine port bytes)) = false
is_no_line (Some (NoLine place why)) = true
is_no_line (Some (JoinedLine port slot)) = false
is_no_line (Some (DidLine did)) = false
is_no_line (Some (ToLine slot bytes)) = false
is_no_line (Some (EndLine frames)) = false

-- no line of a text is read as a `no` line
abbrev pub HasNoRefusal : List ℕ → Type 0
HasNoRefusal text = All (λ line. is_no_line (line_in line) ≡ false) (whole_lines text)

-- ---- the law

-- the text has no `no` line, and its `did` lines are those of each command, once
pub record LosesNoCommand (players frames : ℕ) (text : List ℕ) : Type 0 where
  pub refused : HasNoRefusal text
  pub commands : HasEachCommandOnce players frames (dids text)

-- of a resent recording no command is lost, although two packets of three are: in whichever right journals its frames
-- have, and in each output of its text, for every number of workers
pub record LostPacketsLoseNoCommand : Type 0 where
  pub right : (seed players frames : ℕ) (journals : List (List Entry)) → IsInRange players frames
      → AreRight generated_map 0 (opening generated_map) (resent_frames seed players frames) journals
      → HasEachCommandOnce players frames journals
  pub written : (workers seed players frames : ℕ) (text : List ℕ) → IsInRange players frames
      → IsOutput workers (resent_text seed players frames) text → LosesNoCommand players frames text
