-- The lines of a frame after its first, read part by part.
use Rattle.std.proofs.Common.{◌≡◌, ℕ, List, [], ◌++◌, append-nil, map, Option, sym, ap, ◌∙◌, subst, append_assoc}
use Rattle.edge_io.specs.declared.source.Source as sources
use Rattle.entity_recs.specs.declared.rec.Rec.{Rec}
use Rattle.entity_recs.specs.declared.effect.Entry.{Entry}
use Rattle.move_journal.specs.Merges.{IsRight}
use Rattle.arena_map.specs.Maps.{MapView}
use Rattle.arena_outcomes.specs.Outcomes.{outcome_on}
use Rattle.client_ports.specs.Lists.{Lists}
use Rattle.plain_server.specs.RecordsById.{world_of}
use Rattle.out_text.specs.FrameLines.{did_line, to_lines}
use Rattle.out_text.specs.OutLines.{OutLine, text_of}
use Rattle.out_text.specs.Transcripts.{BeginsWith}
use Rattle.out_text.proofs.Runs.{text_of-append}
use Rattle.transcript_check.specs.Reading.{InputView, ahead_of, ReadsLines, ReadsBeginning, Misses}
use Rattle.transcript_check.specs.Pieces.{HasNoJournal, AreOfJournal, early_lines}
use Rattle.transcript_check.specs.Moves.{RunsMoves, moved_in, answers_among, RunsAnswers}
use Rattle.transcript_check.proofs.Texts.{begins-after, begins-front, if_some-weaker, if_some-both}
use Rattle.transcript_check.proofs.ReadingOn.{reads-both, looked-within, looked-after}
use Rattle.transcript_check.proofs.MovesRead.{IsSplit, split-ahead}

module _ {S : Type 0} (s : sources.Ghosts S) (map_view : MapView) (frame : ℕ) (lists : Lists) (records : List (Option Rec)) where
  abbrev Right : List Entry → Type 0
  Right = IsRight (outcome_on map_view) (world_of records) lists.moves

  abbrev Lines : List Entry → List OutLine
  Lines = answers_among map_view frame records lists

  abbrev head : List OutLine
  head = early_lines lists

  abbrev shown : List Entry → List OutLine
  shown journal = to_lines frame (moved_in map_view records lists.moves journal)

  parts : (journal : List Entry) → Lines journal ≡ head ++ (map did_line journal ++ shown journal)
  parts journal = append_assoc head (map did_line journal) (shown journal)

  text-parts : (journal : List Entry) → text_of (Lines journal) ≡ text_of head ++ (text_of (map did_line journal) ++ text_of (shown journal))
  text-parts journal =
      ap text_of (parts journal) ∙ text_of-append head (map did_line journal ++ shown journal) ∙ ap (λ t. text_of head ++ t) (text_of-append (map did_line journal) (shown journal))

  -- what is ahead after the head begins with the lines of the moves and of the snapshots
  after-head : (bytes left : List ℕ) (journal : List Entry) → bytes ≡ text_of head ++ left → BeginsWith bytes (text_of (Lines journal)) → BeginsWith left (text_of (map did_line journal) ++ text_of (shown journal))
  after-head bytes left journal is begins = begins-after bytes left (text_of head) _ is (subst (BeginsWith bytes) (text-parts journal) begins)

  -- the head is missed
  pub head-missed : (a c : S) (d : InputView) → Misses s a c d (λ bytes. BeginsWith bytes (text_of head) → ⊥) → Misses s a c d (HasNoJournal Right Lines)
  head-missed a c d missed = record {
    missed = if_some-weaker (ahead_of s d a) _ _ missed.missed (λ bytes none journal right begins. none (begins-front bytes (text_of head) _ (subst (BeginsWith bytes) (text-parts journal) begins)));
    uncounted = missed.uncounted;
  }

  -- as much of it was looked at as there is before a right journal, and one line more at most
  pub head-looked : (journal : List Entry) → Right journal → (a c : S) (d f : InputView) → ReadsBeginning s (λ ls. ls ≡ head) a c d f → ReadsBeginning s (AreOfJournal Right Lines) a c d f
  head-looked journal right a c d f begun =
      let later = map did_line journal ++ shown journal in
      looked-within s a c d f (λ ls. ls ≡ head) (AreOfJournal Right Lines)
      (λ ls is. record { after = later; holds = record { journal = journal; right = right; lines_are = ap (λ xs. xs ++ later) is ∙ sym (parts journal) } }) begun

  module _ (a b : S) (d e : InputView) (reads : ReadsLines s a b d e head) where
    -- of the moves as many as a right journal begins with
    pub moves-looked : (c : S) (f : InputView) → ReadsBeginning s (AreOfJournal Right (map did_line)) b c e f → ReadsBeginning s (AreOfJournal Right Lines) a c d f
    moves-looked c f begun =
        looked-after s a b c d e f (AreOfJournal Right (map did_line)) (AreOfJournal Right Lines) head reads
        (λ ls is. record {
          after = shown is.journal;
          holds = record { journal = is.journal; right = is.right; lines_are = ap (λ xs. head ++ (xs ++ shown is.journal)) is.lines_are ∙ sym (parts is.journal) };
        })
        begun

    -- the moves are missed
    pub moves-missed : (c : S) → Misses s b c e (HasNoJournal Right (map did_line)) → Misses s a c d (HasNoJournal Right Lines)
    moves-missed c missed = record {
      missed = if_some-weaker (ahead_of s d a) _ _ (split-ahead (ahead_of s d a) (ahead_of s e b) (text_of head) (HasNoJournal Right (map did_line)) reads.consumed missed.missed)
          (λ bytes has journal right begins. has.holds journal right (begins-front has.left (text_of (map did_line journal)) _ (after-head bytes has.left journal has.is begins)));
      uncounted = missed.uncounted ∙ reads.on.uncounted;
    }

    module _ (c : S) (f : InputView) (records' : List (Option Rec)) (runs : RunsMoves s map_view b c e f records records' lists.moves) where
      -- only this journal has its lines after the head
      abbrev Only : List ℕ → Type 0
      Only bytes = (other : List Entry) → Right other → BeginsWith bytes (text_of (map did_line other)) → other ≡ runs.journal

      -- the snapshots are missed
      pub replies-missed : (g : S) → Misses s c g f (λ bytes. BeginsWith bytes (text_of (to_lines frame records')) → ⊥) → Misses s a g d (HasNoJournal Right Lines)
      replies-missed g missed =
          let Missed : List ℕ → Type 0 = λ bytes. BeginsWith bytes (text_of (to_lines frame records')) → ⊥ in
          let dids = text_of (map did_line runs.journal) in
          let later = split-ahead (ahead_of s e b) (ahead_of s f c) dids Missed runs.reads.reads.consumed missed.missed in
          let both = if_some-both (ahead_of s e b) (IsSplit dids Missed) Only later runs.reads.only in
          record {
            missed = if_some-weaker (ahead_of s d a) _ _ (split-ahead (ahead_of s d a) (ahead_of s e b) (text_of head) (λ bytes. IsSplit dids Missed bytes × Only bytes) reads.consumed both)
                (λ bytes has journal right begins.
                let here = after-head bytes has.left journal has.is begins in
                let same = has.holds.1 journal right (begins-front has.left (text_of (map did_line journal)) _ here) in
                let split = has.holds.0 in
                split.holds (begins-after has.left split.left dids (text_of (to_lines frame records')) split.is
                (subst (BeginsWith has.left)
                (ap (λ j. text_of (map did_line j) ++ text_of (shown j)) same ∙ ap (λ rs. dids ++ text_of (to_lines frame rs)) (sym runs.records_are)) here)));
            uncounted = missed.uncounted ∙ runs.reads.reads.on.uncounted ∙ reads.on.uncounted;
          }

      -- of the snapshots some
      pub replies-looked : (g : S) (h : InputView) → ReadsBeginning s (λ ls. ls ≡ to_lines frame records') c g f h → ReadsBeginning s (AreOfJournal Right Lines) a g d h
      replies-looked g h begun =
          let front = head ++ map did_line runs.journal in
          looked-after s a c g d f h (λ ls. ls ≡ to_lines frame records') (AreOfJournal Right Lines) front (reads-both s a b c d e f head (map did_line runs.journal) reads runs.reads.reads)
          (λ ls is. record {
            after = [];
            holds = record { journal = runs.journal; right = runs.reads.right; lines_are = ap (λ xs. front ++ xs) (append-nil ls ∙ is ∙ ap (to_lines frame) runs.records_are) };
          })
          begun

      -- all was read
      pub answers-read : (g : S) (h : InputView) → ReadsLines s c g f h (to_lines frame records') → RunsAnswers s map_view frame lists a g d h records records'
      answers-read g h shows = record {
        journal = runs.journal;
        reads = record {
          right = runs.reads.right;
          reads = subst (ReadsLines s a g d h) (sym (parts runs.journal))
              (reads-both s a b g d e h head (map did_line runs.journal ++ shown runs.journal) reads
              (reads-both s b c g e f h (map did_line runs.journal) (shown runs.journal) runs.reads.reads (subst (λ rs. ReadsLines s c g f h (to_lines frame rs)) runs.records_are shows)));
          only = if_some-weaker (ahead_of s d a) _ _ (split-ahead (ahead_of s d a) (ahead_of s e b) (text_of head) Only reads.consumed runs.reads.only)
              (λ bytes has other right begins. has.holds other right (begins-front has.left (text_of (map did_line other)) _ (after-head bytes has.left other has.is begins)));
        };
        records_are = runs.records_are;
      }
