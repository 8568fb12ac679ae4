-- A frame of a checker is one of the plain server.
use Rattle.std.proofs.Common.{◌≡◌, ℕ, ◌+◌, ◌*◌, ◌≤◌, List, [], ◌∷◌, ◌++◌, append-nil, length, Option, refl, sym, ap, ◌∙◌, subst, arith}
use Rattle.edge_io.specs.declared.source.Source as sources
use Rattle.entity_recs.specs.declared.rec.Rec.{Rec}
use Rattle.entity_recs.specs.declared.effect.Entry.{Entry}
use Rattle.arena_map.specs.Maps.{MapView, IsMap}
use Rattle.packet_read.specs.declared.arrival.Arrival.{Arrival}
use Rattle.packet_read.specs.declared.arrival.TheConstants.{MOST_ARRIVALS}
use Rattle.client_ports.specs.States.{State, state_of, HaveSameLive, IsServerState}
use Rattle.client_ports.specs.Receiving.{Receiving}
use Rattle.client_ports.specs.Finishing.{finished}
use Rattle.client_ports.proofs.Short.{moves_are_few}
use Rattle.plain_server.specs.Entries.{IsReception}
use Rattle.plain_server.specs.Frames.{state_after_tick, received_in, moved_by, state_after, journal_of, IsRightAfter}
use Rattle.plain_server.proofs.Frames.{right_in_order, received_is, moved_by_is, state_after_is}
use Rattle.out_text.specs.FrameLines.{lines_with}
use Rattle.out_text.specs.OutLines.{OutLine, FrameLine, printed_line, text_of}
use Rattle.out_text.specs.Transcripts.{BeginsWith}
use Rattle.out_text.proofs.Runs.{text_of-append}
use Rattle.transcript_check.specs.Reading.{InputView, ahead_of, ReadsLines, ReadsOneAtMost, ReadsBeginning, Misses}
use Rattle.transcript_check.specs.Checkers.{CheckerView, with_input, IsChecker}
use Rattle.transcript_check.specs.Pieces.{ReadsJournal, HasNoJournal, AreOfJournal, FrameText, answers_with, TakesFrame, MissesFrame, BeginsFrame}
use Rattle.transcript_check.specs.Moves.{RunsAnswers}
use Rattle.transcript_check.proofs.Texts.{begins-after, begins-front, if_some-read, if_some-weaker}
use Rattle.transcript_check.proofs.ReadingOn.{reads-both, looked-none, looked-after}
use Rattle.transcript_check.proofs.Fewness.{lines-few}

-- what was received is that of the frame of a checker
pub record IsHere (v : CheckerView) (arrivals : List Arrival) (r : Receiving) : Type 0 where
  pub is_map : IsMap v.map
  pub is : r ≡ received_in v.map v.frames v.state arrivals
  pub pass : IsReception v.map r
  pub few : length r.lists.moves ≤ 8 * 64

pub is-here : (t v : CheckerView) (m : MapView) (arrivals : List Arrival) (r : Receiving) → v ≡ t → IsChecker t.map t.state → m ≡ v.map → r ≡ received_in m v.frames v.state arrivals → IsHere v arrivals r
is-here t v m arrivals r view checker m_is received =
    let here : IsChecker v.map v.state = subst (λ (u : CheckerView). IsChecker u.map u.state) (sym view) checker in
    let is : r ≡ received_in v.map v.frames v.state arrivals = received ∙ ap (λ x. received_in x v.frames v.state arrivals) m_is in
    record {
      is_map = here.is_map;
      is = is;
      pass = subst (IsReception v.map) (sym is) (received_is v.map v.frames v.state arrivals here.is_map here.fits);
      few = subst (λ (q : Receiving). length q.lists.moves ≤ 8 * 64) (sym is) (moves_are_few v.map v.frames (state_after_tick v.map v.frames v.state) arrivals here.fits.clients);
    }

module _ {S : Type 0} (s : sources.Ghosts S) (old new : S) (t v : CheckerView) (view : v ≡ t) (arrivals : List Arrival) (r : Receiving) (here : IsHere v arrivals r) where
  -- the lines after the first are missed
  pub answers-missed : Misses s old new v.input (HasNoJournal (IsRightAfter v.map r) (answers_with v.map v.frames r)) → MissesFrame s answers_with old new t arrivals
  answers-missed missed =
      subst (λ (u : CheckerView). MissesFrame s answers_with old new u arrivals) view
      (subst (λ (q : Receiving). Misses s old new v.input (HasNoJournal (IsRightAfter v.map q) (answers_with v.map v.frames q))) here.is missed)

  -- their beginning was looked at
  pub answers-looked : (c' : CheckerView) → ReadsBeginning s (AreOfJournal (IsRightAfter v.map r) (answers_with v.map v.frames r)) old new v.input c'.input → BeginsFrame s answers_with old new t c' arrivals
  answers-looked c' begun =
      subst (λ (u : CheckerView). BeginsFrame s answers_with old new u c' arrivals) view
      (subst (λ (q : Receiving). ReadsBeginning s (AreOfJournal (IsRightAfter v.map q) (answers_with v.map v.frames q)) old new v.input c'.input) here.is begun)

  module _ (records' : List (Option Rec)) (input' : InputView) (runs : RunsAnswers s v.map v.frames r.lists old new v.input input' r.state.records records') where
    moved-is : state_of r.state.clients records' ≡ moved_by v.map r runs.journal
    moved-is = ap (state_of r.state.clients) runs.records_are

    -- the live slots are the live players still
    pub live-still : HaveSameLive r.state.clients records'
    live-still = subst (λ (q : State). HaveSameLive q.clients q.records) (sym moved-is) (moved_by_is v.map r runs.journal here.is_map here.pass).fits.live

    -- the checker is the one after the frame
    pub answers-taken : (v' : CheckerView) → length arrivals ≤ MOST_ARRIVALS → v'.map ≡ v.map → v'.state ≡ finished (state_of r.state.clients records') → v'.frames ≡ v.frames + 1
        → v'.moves ≡ v.moves + length r.lists.moves → v'.input ≡ input' → TakesFrame s answers_with old new t v' arrivals
    answers-taken v' few map_is state_is frames_are moves_are input_is =
        let next : v'.state ≡ state_after v.map r runs.journal = state_is ∙ ap finished moved-is in
        let there : ReadsJournal s old new v.input v'.input (IsRightAfter v.map r) (answers_with v.map v.frames r) runs.journal =
        subst (λ (i : InputView). ReadsJournal s old new v.input i (IsRightAfter v.map r) (answers_with v.map v.frames r) runs.journal) (sym input_is) runs.reads in
        let made : TakesFrame s answers_with old new v v' arrivals = record {
          journal = runs.journal;
          reads = subst (λ (p : Receiving). ReadsJournal s old new v.input v'.input (IsRightAfter v.map p) (answers_with v.map v.frames p) runs.journal) here.is there;
          map_is = map_is;
          state_is = next ∙ ap (λ (p : Receiving). state_after v.map p runs.journal) here.is;
          frames_are = frames_are;
          moves_are = moves_are ∙ ap (λ (p : Receiving). v.moves + length p.lists.moves) here.is;
          is = record {
            is_map = subst IsMap (sym map_is) here.is_map;
            fits = subst (λ (m : MapView). IsServerState m v'.state) (sym map_is)
                (subst (IsServerState v.map) (sym next) (state_after_is v.map r runs.journal here.is_map here.pass));
          };
          few = lines-few v.map v.frames v.state arrivals runs.journal here.is_map few (subst (IsReception v.map) here.is here.pass) (subst (λ (p : Receiving). length p.lists.moves ≤ 8 * 64) here.is here.few)
              (subst (λ (p : Receiving). IsRightAfter v.map p runs.journal) here.is runs.reads.right);
          moves_few = (let few = subst (λ (q : Receiving). length q.lists.moves ≤ 8 * 64) here.is here.few in omega (arith, few));
        } in
        subst (λ (u : CheckerView). TakesFrame s answers_with old new u v' arrivals) view made

-- ---- the lines after others of the frame

-- these lines of a frame are those after some others, which its journal doesn't change
abbrev pub Follow : FrameText → FrameText → CheckerView → List Arrival → List OutLine → Type 0
Follow whole lines c arrivals front =
    (journal : List Entry) → whole c.map c.frames (received_in c.map c.frames c.state arrivals) journal
    ≡ front ++ lines c.map c.frames (received_in c.map c.frames c.state arrivals) journal

module _ {S : Type 0} (s : sources.Ghosts S) (whole lines : FrameText) (a b : S) (c : CheckerView) (arrivals : List Arrival) (first : OutLine)
    (follow : Follow whole lines c arrivals (first ∷ [])) where
  -- where the first line is missed, so is the frame
  pub first-missed : Misses s a b c.input (λ bytes. BeginsWith bytes (printed_line first) → ⊥) → MissesFrame s whole a b c arrivals
  first-missed missed = record {
    missed = if_some-weaker (ahead_of s c.input a) _ _ missed.missed
        (λ bytes none journal right begins. none (begins-front bytes (printed_line first) (text_of (lines c.map c.frames (received_in c.map c.frames c.state arrivals) journal))
        (subst (BeginsWith bytes) (ap text_of (follow journal)) begins)));
    uncounted = missed.uncounted;
  }

-- of a frame one line at most was read
pub first-looked : {S : Type 0} (s : sources.Ghosts S) (whole : FrameText) (a b : S) (c c' : CheckerView) (arrivals : List Arrival) → ReadsOneAtMost s a b c.input c'.input → BeginsFrame s whole a b c c' arrivals
first-looked s whole a b c c' arrivals one =
    let r = received_in c.map c.frames c.state arrivals in
    let journal = journal_of c.map r in
    looked-none s a b c.input c'.input (AreOfJournal (IsRightAfter c.map r) (whole c.map c.frames r)) (whole c.map c.frames r journal)
    (record { journal = journal; right = (right_in_order c.map c.frames c.state (arrivals ∷ [])).0; lines_are = refl }) one

module _ {S : Type 0} (s : sources.Ghosts S) (whole lines : FrameText) (a b : S) (c : CheckerView) (input : InputView) (arrivals : List Arrival) (front : List OutLine)
    (follow : Follow whole lines c arrivals front) (reads : ReadsLines s a b c.input input front) (d : S) where
  abbrev Right : List Entry → Type 0
  Right = IsRightAfter c.map (received_in c.map c.frames c.state arrivals)

  abbrev Whole : List Entry → List OutLine
  Whole = whole c.map c.frames (received_in c.map c.frames c.state arrivals)

  abbrev Later : List Entry → List OutLine
  Later = lines c.map c.frames (received_in c.map c.frames c.state arrivals)

  begins-later : (bytes left : List ℕ) (journal : List Entry) → bytes ≡ text_of front ++ left → BeginsWith bytes (text_of (Whole journal)) → BeginsWith left (text_of (Later journal))
  begins-later bytes left journal is begins =
      begins-after bytes left (text_of front) (text_of (Later journal)) is
      (subst (BeginsWith bytes) (ap text_of (follow journal) ∙ text_of-append front (Later journal)) begins)

  -- where they are missed, so is the frame
  pub frame-missed : MissesFrame s lines b d (with_input c input) arrivals → MissesFrame s whole a d c arrivals
  frame-missed missed = record {
    missed = if_some-read (ahead_of s c.input a) (ahead_of s input b) (text_of front) (HasNoJournal Right Later) (HasNoJournal Right Whole) reads.consumed missed.missed
        (λ bytes left is none journal right begins. none journal right (begins-later bytes left journal is begins));
    uncounted = missed.uncounted ∙ reads.on.uncounted;
  }

  pub frame-looked : (c' : CheckerView) → BeginsFrame s lines b d (with_input c input) c' arrivals → BeginsFrame s whole a d c c' arrivals
  frame-looked c' begun =
      looked-after s a b d c.input input c'.input (AreOfJournal Right Later) (AreOfJournal Right Whole) front reads
      (λ ls is. record { after = []; holds = record { journal = is.journal; right = is.right; lines_are = ap (λ xs. front ++ xs) (append-nil ls ∙ is.lines_are) ∙ sym (follow is.journal) } }) begun

  pub frame-taken : (c' : CheckerView) → TakesFrame s lines b d (with_input c input) c' arrivals → TakesFrame s whole a d c c' arrivals
  frame-taken c' taken = record {
    journal = taken.journal;
    reads = record {
      right = taken.reads.right;
      reads = subst (ReadsLines s a d c.input c'.input) (sym (follow taken.journal)) (reads-both s a b d c.input input c'.input front (Later taken.journal) reads taken.reads.reads);
      only = if_some-read (ahead_of s c.input a) (ahead_of s input b) (text_of front) (λ bytes. (other : List Entry) → Right other → BeginsWith bytes (text_of (Later other)) → other ≡ taken.journal)
          (λ bytes. (other : List Entry) → Right other → BeginsWith bytes (text_of (Whole other)) → other ≡ taken.journal) reads.consumed taken.reads.only
          (λ bytes left is only other right begins. only other right (begins-later bytes left other is begins));
    };
    map_is = taken.map_is;
    state_is = taken.state_is;
    frames_are = taken.frames_are;
    moves_are = taken.moves_are;
    is = taken.is;
    few = taken.few;
    moves_few = taken.moves_few;
  }

-- the lines of a frame are its first, and then the others
pub lines-follow : (c : CheckerView) (arrivals : List Arrival) → Follow lines_with answers_with c arrivals (FrameLine c.frames ∷ [])
lines-follow c arrivals journal = refl
