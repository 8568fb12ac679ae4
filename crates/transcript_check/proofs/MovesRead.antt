-- The lines of moves, read one after another.
use Rattle.std.proofs.Common.{◌≡◌, ◌≢◌, ℕ, ◌+◌, ◌==◌, true, false, List, [], ◌∷◌, ◌++◌, length, map, Option, Some, None, IfSome, refl, sym, ap, ◌∙◌, subst, append_assoc, append-nil, length-append}
use Rattle.std.specs.List.{AllByRecursion}
use Rattle.std.specs.Io.KnownBytes.{Consumes}
use Rattle.std.proofs.lemmas.Bool.{eq-eqb}
use Rattle.std.proofs.lemmas.List.{map-append}
use Rattle.edge_io.specs.declared.source.Source as sources
use Rattle.entity_recs.specs.declared.rec.Rec.{Rec}
use Rattle.entity_recs.specs.declared.effect.Entry.{Entry}
use Rattle.entity_recs.specs.Commands.{Command}
use Rattle.entity_recs.specs.Histories.{commands_of}
use Rattle.move_journal.specs.Merges.{IsRight, history_of}
use Rattle.move_journal.proofs.Uniques.{legal_at_first}
use Rattle.move_journal.proofs.Orders.{legal_from_first}
use Rattle.arena_map.specs.Maps.{MapView, IsMap}
use Rattle.arena_outcomes.specs.Outcomes.{outcome_on}
use Rattle.plain_server.specs.RecordsById.{world_of}
use Rattle.plain_server.specs.Moving.{HasLivePlayer, HasSmallNumber, records_after, HaveMoved}
use Rattle.plain_server.proofs.Moves.{moved-none, moved-records}
use Rattle.demo_lines.specs.Rest.{HasNoRestLine}
use Rattle.out_text.specs.FrameLines.{did_line}
use Rattle.out_text.specs.OutLines.{OutLine, FrameLine, FromLine, NoLine, JoinedLine, DidLine, ToLine, EndLine, line_spelling, printed_line, text_of}
use Rattle.out_text.specs.Transcripts.{BeginsWith}
use Rattle.out_text.proofs.Runs.{text_of-append}
use Rattle.out_text.proofs.LinesRead as lines_read
use Rattle.std.proofs.lemmas.Option.{same_Some}
use Rattle.transcript_check.specs.declared.lines.Reported.{Reported}
use Rattle.transcript_check.specs.Reading.{InputView, ahead_of, MayRead, ReadsLine, ReadsLines, ReadsOneAtMost, ReadsBeginning, Misses}
use Rattle.transcript_check.specs.Pieces.{HasNoJournal, AreOfJournal}
use Rattle.transcript_check.specs.Moves.{IsNextOf, move_line, IsReadable, IsNoMove, TakesMove, RunsMoves}
use Rattle.transcript_check.proofs.Texts.{one_line, same_line, text_of-one, begins-after, begins-front, if_some-read, if_some-weaker, if_some-both, if_some-all}
use Rattle.transcript_check.proofs.ReadingOn.{reads-none, reads-both, looked-first}
use Rattle.transcript_check.proofs.InRange.{readable}
use Rattle.transcript_check.proofs.Turns.{AreReady, IsRightFrom, right-none, right-empty, ready-next, right-cons, some-journal, entry_there, begins-with_move, moved-next, next-has}

-- ---- one line

-- where the line that was read is that of no next move
pub no-move : {S : Type 0} (s : sources.Ghosts S) (map_view : MapView) (a b : S) (d e : InputView) (records : List (Option Rec)) (pending : List Command) → ReadsLine s a b d e
    → ((c : Command) (left : List Command) → IsNextOf pending c left → IsReadable (move_line map_view records c) → e.given ≡ line_spelling (move_line map_view records c) → ⊥)
    → Misses s a b d (IsNoMove map_view records pending)
no-move s map_view a b d e records pending one none = record { missed = by (ahead_of s d a) (ahead_of s e b) one.gives.consumed; uncounted = one.on.uncounted }
  where
    by : (p q : Option (List ℕ)) → Consumes p q (e.given ++ 10 ∷ []) → IfSome p (IsNoMove map_view records pending)
    by None q consumed = tt
    by (Some bytes) None consumed = absurd consumed
    by (Some bytes) (Some left_bytes) consumed = λ c left next is begins.
        let l = move_line map_view records c in
        let both : e.given ++ 10 ∷ left_bytes ≡ line_spelling l ++ 10 ∷ begins.after =
        sym (append_assoc e.given (10 ∷ []) left_bytes) ∙ sym consumed ∙ begins.is ∙ append_assoc (line_spelling l) (10 ∷ []) begins.after in
        none c left next is (same_line e.given (line_spelling l) left_bytes begins.after one.gives.one_line (one_line l) both).line_is

-- where no line was read
pub no-line : {S : Type 0} (s : sources.Ghosts S) (map_view : MapView) (a b : S) (d : InputView) (records : List (Option Rec)) (pending : List Command) → Misses s a b d HasNoRestLine
    → Misses s a b d (IsNoMove map_view records pending)
no-line s map_view a b d records pending none = record {
  missed = if_some-weaker (ahead_of s d a) HasNoRestLine (IsNoMove map_view records pending) none.missed
      (λ bytes has c left next is begins.
      let l = move_line map_view records c in
      has (line_spelling l) begins.after (one_line l) is.short (begins.is ∙ append_assoc (line_spelling l) (10 ∷ []) begins.after));
  uncounted = none.uncounted;
}

-- there is one next move of a player
pub record IsOne (c d : Command) (left other : List Command) : Type 0 where
  pub command : c ≡ d
  pub left_is : left ≡ other

one-split : (before : List Command) (c : Command) (after : List Command) (other : List Command) (d : Command) (rest : List Command) → AllByRecursion (λ x. (x.slot == c.slot) ≡ false) before
    → AllByRecursion (λ x. (x.slot == d.slot) ≡ false) other → c.slot ≡ d.slot → before ++ c ∷ after ≡ other ++ d ∷ rest → IsOne c d (before ++ after) (other ++ rest)
one-split [] c after [] d rest none lacks same parts = record { command = cc; left_is = cc }
one-split [] c after (x ∷ other) d rest none lacks same parts =
    let first : c ≡ x = cc in
    let is : (c.slot == d.slot) ≡ false = subst (λ (y : Command). (y.slot == d.slot) ≡ false) (sym first) lacks.0 in
    let own : (c.slot == d.slot) ≡ true = eq-eqb c.slot d.slot same in
    cc
one-split (x ∷ before) c after [] d rest none lacks same parts =
    let first : x ≡ d = cc in
    let is : (d.slot == c.slot) ≡ false = subst (λ (y : Command). (y.slot == c.slot) ≡ false) first none.0 in
    let own : (d.slot == c.slot) ≡ true = eq-eqb d.slot c.slot (sym same) in
    cc
one-split (x ∷ before) c after (y ∷ other) d rest none lacks same parts =
    let first : x ≡ y = cc in
    let more : before ++ c ∷ after ≡ other ++ d ∷ rest = cc in
    let is = one-split before c after other d rest none.1 lacks.1 same more in
    record { command = is.command; left_is = (λ i. first i ∷ is.left_is i) }

pub one-next : (pending : List Command) (c d : Command) (left other : List Command) → IsNextOf pending c left → IsNextOf pending d other → c.slot ≡ d.slot → IsOne c d left other
one-next pending c d left other one two same =
    let is = one-split one.before c one.after two.before d two.after one.none two.none same (sym one.pending_is ∙ two.pending_is) in
    record { command = is.command; left_is = one.left_is ∙ is.left_is ∙ sym two.left_is }

-- none of a player's moves is there
not-among : (slot : ℕ) (before : List Command) (c : Command) (after : List Command) → AllByRecursion (λ x. (x.slot == slot) ≡ false) (before ++ c ∷ after) → c.slot ≡ slot → ⊥
not-among slot [] c after none own = let is : (c.slot == slot) ≡ true = eq-eqb c.slot slot own in let lacks = none.0 in let never : true ≡ false = sym is ∙ lacks in cc
not-among slot (x ∷ before) c after none own = not-among slot before c after none.1 own

pub no-next : (slot : ℕ) (pending : List Command) (c : Command) (left : List Command) → AllByRecursion (λ x. (x.slot == slot) ≡ false) pending → IsNextOf pending c left → c.slot ≡ slot → ⊥
no-next slot pending c left none next own = not-among slot next.before c next.after (subst (AllByRecursion (λ x. (x.slot == slot) ≡ false)) next.pending_is none) own

-- ---- the lines of a journal

-- two lines of moves that are the same and can be read are of one player
same-slot : (map_view : MapView) (records : List (Option Rec)) (c d : Command) → IsReadable (move_line map_view records c) → IsReadable (move_line map_view records d)
    → line_spelling (move_line map_view records c) ≡ line_spelling (move_line map_view records d) → c.slot ≡ d.slot
same-slot map_view records c d is also same = ap slot_of (lines_read.one_line (move_line map_view records c) (move_line map_view records d) is.in_range also.in_range same)
  where
    slot_of : OutLine → ℕ
    slot_of (DidLine did) = did.slot
    slot_of (FrameLine frame) = 0
    slot_of (FromLine port bytes) = 0
    slot_of (NoLine place why) = 0
    slot_of (JoinedLine port slot) = 0
    slot_of (ToLine slot bytes) = 0
    slot_of (EndLine frames) = 0

-- what is ahead is a text and then bytes of which P holds
pub record IsSplit (text : List ℕ) (P : List ℕ → Type 0) (bytes : List ℕ) : Type 0 where
  pub left : List ℕ
  pub is : bytes ≡ text ++ left
  pub holds : P left

pub split-ahead : (a b : Option (List ℕ)) (text : List ℕ) (P : List ℕ → Type 0) → Consumes a b text → IfSome b P → IfSome a (IsSplit text P)
split-ahead a b text P reads has = if_some-read a b text P (IsSplit text P) reads has (λ bytes left is holds. record { left = left; is = is; holds = holds })

module _ {S : Type 0} (s : sources.Ghosts S) (map_view : MapView) (is_map : IsMap map_view) (moves : List Command) (start : List (Option Rec)) where
  abbrev Right : List Entry → Type 0
  Right = IsRight (outcome_on map_view) (world_of start) moves

  abbrev RightFirst : List Entry → Type 0
  RightFirst = IsRightFrom map_view moves 0 start moves

  abbrev lines : List Entry → List OutLine
  lines = map did_line

  -- a right journal goes on so after these entries
  pub record GoesOnWith (records : List (Option Rec)) (pending : List Command) (front journal : List Entry) : Type 0 where
    pub rest : List Entry
    pub is : journal ≡ front ++ rest
    pub right : IsRightFrom map_view moves (length front) records pending rest

  -- the lines of these entries were read, and the moves are run so far
  pub record MovesSoFar (old now : S) (demo demo' : InputView) (records : List (Option Rec)) (pending : List Command) : Type 0 where
    pub front : List Entry
    pub ready : AreReady map_view moves records pending
    pub small : AllByRecursion HasSmallNumber pending
    pub moved : HaveMoved map_view start records (commands_of (history_of moves front))
    pub reads : ReadsLines s old now demo demo' (lines front)
    pub into : (rest : List Entry) → IsRightFrom map_view moves (length front) records pending rest → RightFirst (front ++ rest)
    pub out_of : IfSome (ahead_of s demo old) (λ bytes. (journal : List Entry) → RightFirst journal → BeginsWith bytes (text_of (lines journal)) → GoesOnWith records pending front journal)

  -- a right journal from its first place on is right
  right-again : (journal : List Entry) → RightFirst journal → Right journal
  right-again journal right = record { merge = right.merge; legal = legal_from_first (outcome_on map_view) (world_of start) (history_of moves journal) right.legal }

  -- a right journal of all moves
  pub record HasJournal : Type 0 where
    pub journal : List Entry
    pub right : Right journal

  -- moves that are ready have one
  pub some-right : AreReady map_view moves start moves → HasJournal
  some-right ready = let some = some-journal map_view is_map moves 0 start moves ready in record { journal = some.journal; right = right-again some.journal some.right }

  pub so-far-first : (old : S) (demo : InputView) → MayRead s demo old → AreReady map_view moves start moves → AllByRecursion HasSmallNumber moves → MovesSoFar old old demo demo start moves
  so-far-first old demo may ready small = record {
    front = [];
    ready = ready;
    small = small;
    moved = moved-none map_view start ready.valid;
    reads = reads-none s old demo may;
    into = λ rest right. right;
    out_of = if_some-all (ahead_of s demo old) _ (λ bytes journal right begins. record { rest = journal; is = refl; right = right });
  }

  -- the next line, for a journal that goes on with its move
  text-with : (front : List Entry) (e : Entry) (rest : List Entry) → text_of (lines (front ++ e ∷ rest)) ≡ text_of (lines front) ++ (printed_line (did_line e) ++ text_of (lines rest))
  text-with front e rest = ap text_of (map-append did_line front (e ∷ rest)) ∙ text_of-append (lines front) (did_line e ∷ lines rest)

  module _ (old now : S) (demo demo' : InputView) (records : List (Option Rec)) (pending : List Command) (so : MovesSoFar old now demo demo' records pending) where
    readable-next : (c : Command) (left : List Command) → IsNextOf pending c left → IsReadable (move_line map_view records c)
    readable-next c left next =
        readable map_view records c is_map so.ready.valid (next-has (HasLivePlayer records) pending c left next so.ready.live).0 (next-has HasSmallNumber pending c left next so.small).0

    -- what is ahead begins with the line of the next move of a journal
    begins-next : (bytes left_bytes : List ℕ) (front rest journal : List Entry) (e : Entry) → bytes ≡ text_of (lines front) ++ left_bytes → journal ≡ front ++ e ∷ rest → BeginsWith bytes (text_of (lines journal))
        → BeginsWith left_bytes (printed_line (did_line e))
    begins-next bytes left_bytes front rest journal e parts is begins =
        begins-front left_bytes (printed_line (did_line e)) (text_of (lines rest))
        (begins-after bytes left_bytes (text_of (lines front)) (printed_line (did_line e) ++ text_of (lines rest)) parts
        (subst (BeginsWith bytes) (ap (λ j. text_of (lines j)) is ∙ text-with front e rest) begins))

    -- after their lines one more at most was looked at
    pub so-far-looked : (next : S) (demo'' : InputView) → ReadsOneAtMost s now next demo' demo'' → ReadsBeginning s (AreOfJournal Right lines) old next demo demo''
    so-far-looked next demo'' one =
        let rest = some-journal map_view is_map moves (length so.front) records pending so.ready in
        looked-first s old now next demo demo' demo'' (AreOfJournal Right lines) (lines so.front) (lines rest.journal) so.reads
        (record { journal = so.front ++ rest.journal; right = right-again (so.front ++ rest.journal) (so.into rest.journal rest.right); lines_are = sym (map-append did_line so.front rest.journal) }) one

    -- none of the next moves has its line there
    pub so-far-missed : (next : S) → pending ≢ [] → Misses s now next demo' (IsNoMove map_view records pending) → Misses s old next demo (HasNoJournal Right lines)
    so-far-missed next some missed =
        let splits = split-ahead (ahead_of s demo old) (ahead_of s demo' now) (text_of (lines so.front)) (IsNoMove map_view records pending) so.reads.consumed missed.missed in
        record {
          missed = if_some-weaker (ahead_of s demo old) _ _ (if_some-both (ahead_of s demo old) _ _ splits so.out_of)
              (λ bytes has journal right begins.
              let goes = has.1 journal (right-of journal right) begins in
              let first_move = begins-with_move map_view is_map moves (length so.front) records pending goes.rest some so.ready goes.right in
              let e = entry_there map_view is_map moves (length so.front) records first_move.c in
              has.0.holds first_move.c first_move.left first_move.next (readable-next first_move.c first_move.left first_move.next)
              (begins-next bytes has.0.left so.front first_move.rest journal e has.0.is (goes.is ∙ ap (λ r. so.front ++ r) first_move.journal_is) begins));
          uncounted = missed.uncounted ∙ so.reads.on.uncounted;
        }
      where
        right-of : (journal : List Entry) → Right journal → RightFirst journal
        right-of journal right = record { merge = right.merge; legal = legal_at_first (outcome_on map_view) (world_of start) (history_of moves journal) right.legal }

    -- the line of a next move was read, and it was run
    pub so-far-next : (next : S) (demo'' : InputView) (records' : List (Option Rec)) (pending' : List Command) → TakesMove s map_view now next demo' demo'' records records' pending pending'
        → MovesSoFar old next demo demo'' records' pending'
    so-far-next next demo'' records' pending' takes =
        let c = takes.c in
        let e = entry_there map_view is_map moves (length so.front) records c in
        let front = so.front ++ e ∷ [] in
        let more : length front ≡ length so.front + 1 = length-append so.front (e ∷ []) in
        let made : MovesSoFar old next demo demo'' (records_after map_view records c) pending' = record {
          front = front;
          ready = ready-next map_view is_map moves records pending c pending' so.ready takes.next;
          small = (next-has HasSmallNumber pending c pending' takes.next so.small).1;
          moved = moved-next map_view is_map moves start records so.front (length so.front) pending c pending' so.ready takes.next so.moved;
          reads = subst (ReadsLines s old next demo demo'') (sym (map-append did_line so.front (e ∷ [])))
              (reads-both s old now next demo demo' demo'' (lines so.front) (move_line map_view records c ∷ []) so.reads takes.reads);
          into = λ rest right.
              subst RightFirst (sym (append_assoc so.front (e ∷ []) rest))
              (so.into (e ∷ rest) (right-cons map_view is_map moves (length so.front) records pending c pending' rest so.ready takes.next
              (subst (λ n. IsRightFrom map_view moves n (records_after map_view records c) pending' rest) more right)));
          out_of = if_some-weaker (ahead_of s demo old) _ _
              (if_some-both (ahead_of s demo old) _ _ (split-ahead (ahead_of s demo old) (ahead_of s demo' now) (text_of (lines so.front)) (λ bytes. BeginsWith bytes (printed_line (move_line map_view records c))) so.reads.consumed
              (begins-read (ahead_of s demo' now) (ahead_of s demo'' next) (move_line map_view records c) takes.reads.consumed)) so.out_of)
              (λ bytes has journal right begins. goes-next c takes.next e bytes has.0.left has.0.is has.0.holds journal begins (has.1 journal right begins));
        } in
        subst (λ rs. MovesSoFar old next demo demo'' rs pending') (sym takes.records_are) made
      where
        begins-read : (a b : Option (List ℕ)) (l : OutLine) → Consumes a b (text_of (l ∷ [])) → IfSome a (λ bytes. BeginsWith bytes (printed_line l))
        begins-read None b l reads = tt
        begins-read (Some bytes) None l reads = absurd reads
        begins-read (Some bytes) (Some left) l reads = record { after = left; is = reads ∙ ap (λ t. t ++ left) (text_of-one l) }

        some-pending : (c : Command) → IsNextOf pending c pending' → pending ≢ []
        some-pending c is none = no-parts is.before c is.after (sym none ∙ is.pending_is)
          where
            no-parts : (before : List Command) (d : Command) (after : List Command) → [] ≡ before ++ d ∷ after → ⊥
            no-parts [] d after same = cc
            no-parts (x ∷ before) d after same = cc

        same-line : (left_bytes : List ℕ) (l k : OutLine) → BeginsWith left_bytes (printed_line l) → BeginsWith left_bytes (printed_line k) → line_spelling l ≡ line_spelling k
        same-line left_bytes l k one two =
            (same_line (line_spelling l) (line_spelling k) one.after two.after (one_line l) (one_line k)
            (sym (append_assoc (line_spelling l) (10 ∷ []) one.after) ∙ sym one.is ∙ two.is ∙ append_assoc (line_spelling k) (10 ∷ []) two.after)).line_is

        goes-same : (c d : Command) (left other : List Command) (journal rest : List Entry) → IsOne c d left other → journal ≡ so.front ++ entry_there map_view is_map moves (length so.front) records d ∷ rest
            → IsRightFrom map_view moves (length so.front + 1) (records_after map_view records d) other rest
            → GoesOnWith (records_after map_view records c) left (so.front ++ entry_there map_view is_map moves (length so.front) records c ∷ []) journal
        goes-same c d left other journal rest one is right =
            let e = entry_there map_view is_map moves (length so.front) records c in
            let more : length (so.front ++ e ∷ []) ≡ length so.front + 1 = length-append so.front (e ∷ []) in
            record {
              rest = rest;
              is = is ∙ ap (λ x. so.front ++ entry_there map_view is_map moves (length so.front) records x ∷ rest) (sym one.command) ∙ sym (append_assoc so.front (e ∷ []) rest);
              right = subst (λ n. IsRightFrom map_view moves n (records_after map_view records c) left rest) (sym more)
                  (subst (λ l. IsRightFrom map_view moves (length so.front + 1) (records_after map_view records c) l rest) (sym one.left_is)
                  (subst (λ x. IsRightFrom map_view moves (length so.front + 1) (records_after map_view records x) other rest) (sym one.command) right));
            }

        goes-next : (c : Command) (is : IsNextOf pending c pending') (e : Entry) (bytes left_bytes : List ℕ) → bytes ≡ text_of (lines so.front) ++ left_bytes → BeginsWith left_bytes (printed_line (move_line map_view records c))
            → (journal : List Entry) → BeginsWith bytes (text_of (lines journal)) → GoesOnWith records pending so.front journal
            → GoesOnWith (records_after map_view records c) pending' (so.front ++ entry_there map_view is_map moves (length so.front) records c ∷ []) journal
        goes-next c is e bytes left_bytes parts here journal begins goes =
            let m = begins-with_move map_view is_map moves (length so.front) records pending goes.rest (some-pending c is) so.ready goes.right in
            let entry = entry_there map_view is_map moves (length so.front) records m.c in
            let there = begins-next bytes left_bytes so.front m.rest journal entry parts (goes.is ∙ ap (λ r. so.front ++ r) m.journal_is) begins in
            let slots = same-slot map_view records c m.c (readable-next c pending' is) (readable-next m.c m.left m.next) (same-line left_bytes (move_line map_view records c) (move_line map_view records m.c) here there) in
            let one = one-next pending c m.c pending' m.left is m.next slots in
            goes-same c m.c pending' m.left journal m.rest one (goes.is ∙ ap (λ r. so.front ++ r) m.journal_is) m.right

    -- all moves were run
    pub so-far-done : pending ≡ [] → RunsMoves s map_view old now demo demo' start records moves
    so-far-done none = record {
      journal = so.front;
      reads = record {
        right = right-again so.front (subst RightFirst (append-nil so.front) (so.into [] (subst (λ p. IsRightFrom map_view moves (length so.front) records p []) (sym none) (right-none map_view moves (length so.front) records))));
        reads = so.reads;
        only = if_some-weaker (ahead_of s demo old) _ _ so.out_of (λ bytes goes other right begins. only-one other (goes other (first-of other right) begins));
      };
      records_are = sym (moved-records map_view start records (commands_of (history_of moves so.front)) so.moved);
    }
      where
        first-of : (journal : List Entry) → Right journal → RightFirst journal
        first-of journal right = record { merge = right.merge; legal = legal_at_first (outcome_on map_view) (world_of start) (history_of moves journal) right.legal }

        only-one : (other : List Entry) → GoesOnWith records pending so.front other → other ≡ so.front
        only-one other goes =
            goes.is ∙ ap (λ r. so.front ++ r) (right-empty map_view moves (length so.front) records goes.rest (subst (λ p. IsRightFrom map_view moves (length so.front) records p goes.rest) none goes.right)) ∙ append-nil so.front

-- ---- what the code finds in a line

-- what is reported is the slot and the number of a line
pub record IsReport (r : Reported) (slot seq : ℕ) : Type 0 where
  pub slot_is : r.slot ≡ slot
  pub seq_is : r.seq ≡ seq

pub same-report : (o : Option Reported) (r : Reported) (slot seq : ℕ) → o ≡ Some r → o ≡ Some (record { slot = slot; seq = seq }) → IsReport r slot seq
same-report o r slot seq is also =
    let same : ◌≡◌ {A = Reported} r (record { slot = slot; seq = seq }) = same_Some r (record { slot = slot; seq = seq }) (sym is ∙ also) in
    record { slot_is = ap (λ (x : Reported). x.slot) same; seq_is = ap (λ (x : Reported). x.seq) same }
