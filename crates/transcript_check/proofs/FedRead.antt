-- The frames of a log that were read so far, and the verdict where the next piece is none.
use Rattle.std.proofs.Common.{◌≡◌, inl, inr, ℕ, ◌+◌, ◌*◌, ◌<◌, ◌≤◌, true, false, List, [], ◌∷◌, ◌++◌, length, map as map_list, Option, Some, None, IfSome, refl, sym, ap, ◌∙◌, subst, arith, append-nil, append_assoc, length-append}
use Rattle.std.specs.Prelude.{⊤}
use Rattle.std.specs.List.{AllByRecursion}
use Rattle.std.proofs.lemmas.Bool.{cases_order}
use Rattle.std.proofs.lemmas.List.{length-map}
use Rattle.edge_io.specs.Lines.{HasNoLineFeed}
use Rattle.edge_io.specs.declared.source.Source as sources
use Rattle.entity_recs.specs.declared.effect.Entry.{Entry}
use Rattle.arena_map.specs.declared.limits.TheConstants.{MOST_FRAMES}
use Rattle.arena_map.specs.Maps.{MapView, IsMap, is_ready}
use Rattle.packet_read.specs.declared.arrival.Arrival.{Arrival}
use Rattle.client_ports.specs.declared.received.TheConstants.{MOST_FRAME_MOVES}
use Rattle.plain_server.specs.RecordsById.{opening}
use Rattle.plain_server.specs.Frames.{received_in, state_played, AreRight}
use Rattle.plain_server.proofs.Frames as plain
use Rattle.plain_server.proofs.Frames.{opening_is}
use Rattle.plain_server.proofs.Turns.{right_count}
use Rattle.demo_lines.specs.Rest.{GivesRestLine, HasNoRestLine}
use Rattle.demo_lines.specs.Spelling.{IsFrame, IsRecording}
use Rattle.out_text.specs.Feeds.{from_line, fed_lines}
use Rattle.out_text.specs.MatchLogs.{may_have_more, EndsPackets, IsLog, HasRightFrames, IsWrongLogAfter}
use Rattle.out_text.specs.OutLines.{OutLine, FrameLine, EndLine, line_spelling, printed_line, text_of}
use Rattle.out_text.specs.Transcripts.{BeginsWith, run_moves}
use Rattle.out_text.proofs.FedRuns.{fed_lines-push}
use Rattle.out_text.proofs.Runs.{state_played-push, right-push, text_of-append}
use Rattle.transcript_check.specs.Audits.{OpensFrame, IsRightLog, IsWrongLogAt, IsLogVerdict, AreOfLog, TakesLog}
use Rattle.transcript_check.specs.Checkers.{CheckerView, new_checker, with_input, IsChecker}
use Rattle.transcript_check.specs.Packets.{fed_with, IsFed, BeginsWithFed, TakesFed, MissesFed, BeginsFed}
use Rattle.transcript_check.specs.Pieces.{answers_with}
use Rattle.transcript_check.specs.Reading.{InputView, count_after, ahead_of, MayRead, IsNeeded, ReadsLine, ReadsLines, ReadsOneAtMost, ReadsBeginning, Misses}
use Rattle.transcript_check.specs.declared.verdict.Verdict.TheVariants.{Right, Wrong}
use Rattle.transcript_check.proofs.FedFrames.{more-after}
use Rattle.transcript_check.proofs.FramesRead.{run_moves-push, counted-few}
use Rattle.transcript_check.proofs.HeldLines.{BeginsWithLine}
use Rattle.transcript_check.proofs.LogsThere.{line-first, end-is-no-frame, end-short, frame-short, last_of_log, log-there}
use Rattle.transcript_check.proofs.OneFeed.{AreThere, first-there, GoesOnWith, goes-on-with}
use Rattle.transcript_check.proofs.OneJournal.{text-next}
use Rattle.transcript_check.proofs.ReadingOn.{IsWithin, reads-none, reads-both, read-wanted, looked-first, looked-after}
use Rattle.transcript_check.proofs.Texts.{one_line, same_line, append-same, if_some-read, if_some-over, if_some-all}

-- ---- a wrong log

-- no next frame is there, nor the last line after these frames
pub record HasNoNext (arena : MapView) (feeds : List (List Arrival)) (js : List (List Entry)) (left : List ℕ) : Type 0 where
  pub no_end : BeginsWith left (printed_line (EndLine (length feeds))) → ⊥
  pub no_frame : (f : List Arrival) (more : List (List Arrival)) (j : List Entry) (later : List (List Entry)) (after : List ℕ) → length feeds + length (f ∷ more) ≤ MOST_FRAMES → is_ready arena ≡ true
      → AreThere arena (0 + length feeds) (state_played arena 0 (opening arena) feeds js) (f ∷ more) (j ∷ later) left after → ⊥

module _ (arena : MapView) (feeds : List (List Arrival)) (js : List (List Entry)) (bytes left : List ℕ) (recorded : IsRecording arena feeds) (right : AreRight arena 0 (opening arena) feeds js)
    (is : bytes ≡ text_of (fed_lines arena 0 (opening arena) feeds js) ++ left) (whole : may_have_more (fed_lines arena 0 (opening arena) feeds js) ≡ true → EndsPackets left)
    (none : HasNoNext arena feeds js left) where
  ours : AreThere arena 0 (opening arena) feeds js bytes left
  ours = record { each = recorded.each; right = right; is = is; whole = whole }

  -- nothing that goes on with another frame is there
  never-more : (all : List (List Arrival)) (ks : List (List Entry)) (end : List ℕ) → IsRecording arena all → length feeds < length all → AreThere arena 0 (opening arena) all ks bytes end → ⊥
  never-more all ks end of more there = by on.more on.later on.feeds_are on.there
    where
      on : GoesOnWith arena recorded.is_map 0 (opening arena) feeds all js ks left end
      on = goes-on-with arena recorded.is_map 0 (opening arena) feeds all js ks bytes left end (opening_is arena recorded.is_map) (let few = of.few in omega (arith, few)) (omega (arith, more)) ours there

      by : (rest : List (List Arrival)) (later : List (List Entry)) → all ≡ feeds ++ rest → AreThere arena (0 + length feeds) (state_played arena 0 (opening arena) feeds js) rest later left end → ⊥
      by [] later same next = let long = ap length same ∙ ap length (append-nil feeds) in omega (arith, long, more)
      by (f ∷ rest) [] same next = absurd next.right
      by (f ∷ rest) (j ∷ later) same next = none.no_frame f rest j later end (let few = of.few in let long = ap length same ∙ length-append feeds (f ∷ rest) in omega (arith, few, long)) (of.spawn (omega (arith, more))) next

  no-more : HasRightFrames arena bytes (length feeds + 1) → ⊥
  no-more p =
      let b = p.frames in
      never-more b.feeds b.journals b.begins.after b.recorded (let count = p.count in omega (arith, count)) (record { each = b.recorded.each; right = b.right; is = b.begins.is; whole = b.whole })

  module _ (t : IsLog arena bytes) where
    abbrev end : List ℕ
    end = last_of_log arena bytes t

    theirs : AreThere arena 0 (opening arena) t.feeds t.journals bytes end
    theirs = log-there arena bytes t

    -- it has as many frames
    as-many : length feeds ≡ length t.feeds → ⊥
    as-many same = by on.more on.later on.feeds_are on.there
      where
        on : GoesOnWith arena recorded.is_map 0 (opening arena) feeds t.feeds js t.journals left end
        on = goes-on-with arena recorded.is_map 0 (opening arena) feeds t.feeds js t.journals bytes left end (opening_is arena recorded.is_map) (let few = t.recorded.few in omega (arith, few)) (omega (arith, same)) ours theirs

        by : (rest : List (List Arrival)) (later : List (List Entry)) → t.feeds ≡ feeds ++ rest → AreThere arena (0 + length feeds) (state_played arena 0 (opening arena) feeds js) rest later left end → ⊥
        by [] [] are next = none.no_end (record { after = t.begins.after; is = next.is ∙ ap (λ n. printed_line (EndLine n) ++ t.begins.after) (sym same) })
        by [] (j ∷ later) are next = absurd next.right
        by (f ∷ rest) later are next = let long = ap length are ∙ length-append feeds (f ∷ rest) in omega (arith, long, same)

    -- it has fewer
    fewer : length t.feeds < length feeds → ⊥
    fewer less = by on.more on.later on.feeds_are on.there
      where
        on : GoesOnWith arena recorded.is_map 0 (opening arena) t.feeds feeds t.journals js end left
        on = goes-on-with arena recorded.is_map 0 (opening arena) t.feeds feeds t.journals js bytes end left (opening_is arena recorded.is_map) (let few = recorded.few in omega (arith, few)) (omega (arith, less)) theirs ours

        by : (rest : List (List Arrival)) (later : List (List Entry)) → feeds ≡ t.feeds ++ rest → AreThere arena (0 + length t.feeds) (state_played arena 0 (opening arena) t.feeds t.journals) rest later end left → ⊥
        by [] later are next = let long = ap length are ∙ ap length (append-nil t.feeds) in omega (arith, long, less)
        by (f ∷ rest) [] are next = absurd next.right
        by (f ∷ rest) (j ∷ later) are next =
            let last = EndLine (length t.feeds) in
            let first = FrameLine (0 + length t.feeds) in
            let same = same_line (line_spelling last) (line_spelling first) t.begins.after _ (one_line last) (one_line first) (sym (line-first last t.begins.after) ∙ next.is ∙ text-next first _ left) in
            end-is-no-frame (length t.feeds) (0 + length t.feeds) same.line_is

    not-all : ⊥
    not-all =
        elim (cases_order (length feeds) (length t.feeds)) [
          | inl same ↦ as-many same
          | inr (inl less) ↦ never-more t.feeds t.journals end t.recorded less theirs
          | inr (inr more) ↦ fewer more
        ]

  -- the pieces so far are right, and the next one is wrong
  pub wrong-log : IsWrongLogAfter arena bytes (length (fed_lines arena 0 (opening arena) feeds js))
  wrong-log = record {
    k = length feeds;
    pieces = record {
      frames = record { feeds = feeds; recorded = recorded; journals = js; right = right; begins = record { after = left; is = is }; whole = whole };
      count = refl;
    };
    no_more = no-more;
    not_all = not-all;
    lines_are = refl;
  }

-- ---- the frames that were read

pub record FedSoFar {S : Type 0} (s : sources.Ghosts S) (arena : MapView) (old now : S) (demo : InputView) (c : CheckerView) : Type 0 where
  pub feeds : List (List Arrival)
  pub recorded : IsRecording arena feeds
  pub journals : List (List Entry)
  pub right : AreRight arena 0 (opening arena) feeds journals
  pub reads : ReadsLines s old now demo c.input (fed_lines arena 0 (opening arena) feeds journals)
  pub whole : may_have_more (fed_lines arena 0 (opening arena) feeds journals) ≡ true
      → IfSome (ahead_of s demo old) (λ bytes. (b : BeginsWith bytes (text_of (fed_lines arena 0 (opening arena) feeds journals))) → EndsPackets b.after)
  pub map_is : c.map ≡ arena
  pub state_is : c.state ≡ state_played arena 0 (opening arena) feeds journals
  pub frames_are : c.frames ≡ 0 + length feeds
  pub moves_are : c.moves ≡ run_moves arena 0 (opening arena) feeds journals
  pub moves_few : c.moves ≤ MOST_FRAME_MOVES * length feeds
  pub first : demo.count ≡ 0
  pub few : length (fed_lines arena 0 (opening arena) feeds journals) ≤ 2600 * length feeds
  pub is : IsChecker c.map c.state

-- a condition and what holds under it
if_some-under : (a : Option (List ℕ)) (Q : Type 0) (P : List ℕ → Type 0) → (Q → IfSome a P) → IfSome a (λ bytes. Q → P bytes)
if_some-under None Q P then = tt
if_some-under (Some bytes) Q P then = then

gives-begins : (a b : Option (List ℕ)) (line : List ℕ) → GivesRestLine a b line → IfSome a (BeginsWithLine line)
gives-begins None b line gives = tt
gives-begins (Some bytes) None line gives = absurd gives.consumed
gives-begins (Some bytes) (Some left) line gives = record { after = left; is = gives.consumed ∙ append_assoc line (10 ∷ []) left }

all-push : (feeds : List (List Arrival)) (f : List Arrival) → AllByRecursion IsFrame feeds → IsFrame f → AllByRecursion IsFrame (feeds ++ f ∷ [])
all-push [] f all is = (is, tt)
all-push (x ∷ feeds) f all is = (all.0, all-push feeds f all.1 is)

recorded-push : (arena : MapView) (feeds : List (List Arrival)) (f : List Arrival) → IsRecording arena feeds → IsFrame f → length feeds < MOST_FRAMES → is_ready arena ≡ true → IsRecording arena (feeds ++ f ∷ [])
recorded-push arena feeds f recorded is few ready = record {
  is_map = recorded.is_map;
  few = (let long = length-append feeds (f ∷ []) in omega (arith, long, few));
  each = all-push feeds f recorded.each is;
  spawn = λ some. ready;
}

-- the bytes begin with this line, and after it with no frame that is fed
pub record HasNoFed (c : CheckerView) (line left : List ℕ) : Type 0 where
  pub rest : List ℕ
  pub is : left ≡ line ++ 10 ∷ rest
  pub none : BeginsWithFed c rest → ⊥

-- where the line opens the next frame, that isn't there
no-fed : (arena : MapView) (feeds : List (List Arrival)) (js : List (List Entry)) → IsRecording arena feeds → AreRight arena 0 (opening arena) feeds js → (moves : ℕ) (input : InputView) (line left : List ℕ)
    → line ≡ line_spelling (FrameLine (0 + length feeds)) → HasNoLineFeed line
    → HasNoFed (record { map = arena; state = state_played arena 0 (opening arena) feeds js; frames = 0 + length feeds; moves = moves; input = input }) line left → HasNoNext arena feeds js left
no-fed arena feeds js recorded right moves input line left given whole nothing = record {
  no_end = λ e. (let last = EndLine (length feeds) in
      end-is-no-frame (length feeds) (0 + length feeds)
      (sym (same_line line (line_spelling last) nothing.rest e.after whole (one_line last) (sym nothing.is ∙ e.is ∙ line-first last e.after)).line_is ∙ given));
  no_frame = λ f more j later after few ready there. (let n = 0 + length feeds in
      let s = state_played arena 0 (opening arena) feeds js in
      let r = received_in arena n s f in
      let froms = map_list from_line f in
      let answers = answers_with arena n r j in
      let one = first-there arena recorded.is_map n s f j more later left after (plain.played_is arena 0 (opening arena) feeds js recorded.is_map (opening_is arena recorded.is_map)) (omega (arith, few)) there in
      let first = FrameLine n in
      let same = same_line line (line_spelling first) nothing.rest one.left whole (one_line first) (sym nothing.is ∙ one.is ∙ line-first first one.left) in
      nothing.none (record {
        these = froms ++ answers;
        fed = record { packets = f; frame = there.each.0; journal = j; right = there.right.0; lines_are = refl };
        begins = record {
          after = one.rest;
          is = same.rest_is ∙ one.left_is ∙ ap (λ t. text_of froms ++ t) one.ended_is ∙ sym (append_assoc (text_of froms) (text_of answers) one.rest)
              ∙ ap (λ t. t ++ one.rest) (sym (text_of-append froms answers));
        };
        whole = one.whole;
      }));
}

module _ {S : Type 0} (s : sources.Ghosts S) (arena : MapView) where
  -- none were read
  pub fed-none : (old : S) (c : CheckerView) → MayRead s c.input old → c ≡ new_checker arena c.input → c.input.count ≡ 0 → IsChecker c.map c.state → FedSoFar s arena old old c.input c
  fed-none old c may new first is =
      let map_is : c.map ≡ arena = ap (λ (u : CheckerView). u.map) new in
      record {
        feeds = [];
        recorded = record { is_map = subst IsMap map_is is.is_map; few = omega arith; each = tt; spawn = λ some. absurd (omega (arith, some)) };
        journals = [];
        right = tt;
        reads = reads-none s old c.input may;
        whole = λ more. absurd (let never : false ≡ true = more in cc);
        map_is = map_is;
        state_is = ap (λ (u : CheckerView). u.state) new;
        frames_are = ap (λ (u : CheckerView). u.frames) new;
        moves_are = ap (λ (u : CheckerView). u.moves) new;
        moves_few = (let m = ap (λ (u : CheckerView). u.moves) new in omega (arith, m));
        first = first;
        few = omega arith;
        is = is;
      }

  module _ (old now : S) (demo : InputView) (c : CheckerView) (so : FedSoFar s arena old now demo c) where
    abbrev lines : List OutLine
    lines = fed_lines arena 0 (opening arena) so.feeds so.journals

    line-count : c.input.count ≡ length lines
    line-count = so.reads.count_is ∙ ap (λ n. count_after n (length lines)) so.first ∙ counted-few (length lines) (let f = so.few in let few = so.recorded.few in omega (arith, f, few))

    whole-over : IfSome (ahead_of s demo old) (λ bytes. may_have_more lines ≡ true → (b : BeginsWith bytes (text_of lines)) → EndsPackets b.after)
    whole-over = if_some-under (ahead_of s demo old) (may_have_more lines ≡ true) (λ bytes. (b : BeginsWith bytes (text_of lines)) → EndsPackets b.after) so.whole

    -- the next piece isn't there
    wrong-next : (new : S) (P : List ℕ → Type 0) → IfSome (ahead_of s c.input now) P → ((left : List ℕ) → P left → HasNoNext arena so.feeds so.journals left) → s.faults new ≡ s.faults now
        → (before count : ℕ) → count ≡ c.input.count → Misses s old new demo (λ bytes. IsLogVerdict arena bytes before (Wrong (before + count + 1)))
    wrong-next new P there none faults before count counts = record {
      missed = if_some-over (ahead_of s demo old) (ahead_of s c.input now) (text_of lines) (λ bytes. may_have_more lines ≡ true → (b : BeginsWith bytes (text_of lines)) → EndsPackets b.after) P
          (λ bytes. IsWrongLogAt arena bytes before (before + count + 1)) so.reads.consumed whole-over there
          (λ bytes left is whole p. record {
            lines = length lines;
            wrong = wrong-log arena so.feeds so.journals bytes left so.recorded so.right is (λ more. whole more (record { after = left; is = is })) (none left p);
            line_is = (let own = line-count in omega (arith, own, counts));
          });
      uncounted = faults ∙ so.reads.on.uncounted;
    }

    no-line : (left : List ℕ) → HasNoRestLine left → HasNoNext arena so.feeds so.journals left
    no-line left none =
        let k = length so.feeds in
        let few = so.recorded.few in
        record {
          no_end = λ b. none (line_spelling (EndLine k)) b.after (one_line (EndLine k)) (let short = end-short k (omega (arith, few)) in omega (arith, short)) (b.is ∙ line-first (EndLine k) b.after);
          no_frame = λ f more j later after below ready there.
              none (line_spelling (FrameLine (0 + k))) _ (one_line (FrameLine (0 + k))) (let short = frame-short (0 + k) (omega (arith, below)) in omega (arith, short)) (there.is ∙ text-next (FrameLine (0 + k)) _ after);
        }

    -- no line follows
    pub line-missed : (new : S) → Misses s now new c.input HasNoRestLine → (before count : ℕ) → count ≡ c.input.count
        → Misses s old new demo (λ bytes. IsLogVerdict arena bytes before (Wrong (before + count + 1)))
    line-missed new missed before count counts = wrong-next new HasNoRestLine missed.missed no-line missed.uncounted before count counts

    -- of the next piece one line at most was looked at
    pub line-looked : (new : S) (e : InputView) → ReadsOneAtMost s now new c.input e → ReadsBeginning s (AreOfLog arena) old new demo e
    line-looked new e one =
        looked-first s old now new demo c.input e (AreOfLog arena) lines (EndLine (length so.feeds) ∷ []) so.reads
        (record { feeds = so.feeds; recorded = so.recorded; journals = so.journals; right = so.right; lines_are = refl }) one

    module _ (mid : S) (c1 : CheckerView) (c1_is : c1 ≡ with_input c c1.input) (read : ReadsLine s now mid c.input c1.input) where
      abbrev played : CheckerView
      played = record { map = arena; state = state_played arena 0 (opening arena) so.feeds so.journals; frames = 0 + length so.feeds; moves = c.moves; input = c1.input }

      played_is : c1 ≡ played
      played_is = c1_is ∙ (λ i. record { map = so.map_is i; state = so.state_is i; frames = so.frames_are i; moves = c.moves; input = c1.input })

      frames-zero : c1.frames ≡ 0 + length so.feeds
      frames-zero = ap (λ (u : CheckerView). u.frames) played_is

      frames-same : c1.frames ≡ length so.feeds
      frames-same = let same = frames-zero in omega (arith, same)

      map-same : c1.map ≡ arena
      map-same = ap (λ (u : CheckerView). u.map) played_is

      -- the line is that of no piece
      pub other-missed : (c1.input.given ≡ line_spelling (EndLine c1.frames) → ⊥) → (OpensFrame c1 c1.input.given → ⊥) → (before count : ℕ) → count ≡ c.input.count
          → Misses s old mid demo (λ bytes. IsLogVerdict arena bytes before (Wrong (before + count + 1)))
      other-missed no_end no_frame before count counts =
          wrong-next mid (BeginsWithLine c1.input.given) (gives-begins (ahead_of s c.input now) (ahead_of s c1.input mid) c1.input.given read.gives)
          (λ left b. other left b) read.on.uncounted before count counts
        where
          other : (left : List ℕ) → BeginsWithLine c1.input.given left → HasNoNext arena so.feeds so.journals left
          other left b =
              let k = length so.feeds in
              record {
                no_end = λ e. no_end ((same_line c1.input.given (line_spelling (EndLine k)) b.after e.after read.gives.one_line (one_line (EndLine k)) (sym b.is ∙ e.is ∙ line-first (EndLine k) e.after)).line_is
                    ∙ ap (λ n. line_spelling (EndLine n)) (sym frames-same));
                no_frame = λ f more j later after below ready there.
                    no_frame (record {
                      few = (let same = frames-same in omega (arith, same, below));
                      ready = ap is_ready map-same ∙ ready;
                      is = (same_line c1.input.given (line_spelling (FrameLine (0 + k))) b.after _ read.gives.one_line (one_line (FrameLine (0 + k))) (sym b.is ∙ there.is ∙ text-next (FrameLine (0 + k)) _ after)).line_is
                          ∙ ap (λ n. line_spelling (FrameLine n)) (sym frames-zero);
                    });
              }

      module _ (given : c1.input.given ≡ line_spelling (EndLine c1.frames)) where
        ended : ReadsLines s old mid demo c1.input (lines ++ EndLine (length so.feeds) ∷ [])
        ended =
            let last = EndLine (length so.feeds) in
            reads-both s old now mid demo c.input c1.input lines (last ∷ []) so.reads (read-wanted s now mid c.input c1.input last read (given ∙ ap (λ n. line_spelling (EndLine n)) frames-same))

        -- the last line was read: the log is right
        pub end-right : (before count moves : ℕ) → count ≡ c1.frames → moves ≡ c1.moves → Misses s old mid demo (λ bytes. IsLogVerdict arena bytes before (Right count moves))
        end-right before count moves counts moved =
            let moves_same : c1.moves ≡ c.moves = ap (λ (u : CheckerView). u.moves) played_is in
            record {
              missed = if_some-read (ahead_of s demo old) (ahead_of s c1.input mid) (text_of (lines ++ EndLine (length so.feeds) ∷ [])) (λ _. ⊤) (λ bytes. IsRightLog arena bytes count moves) ended.consumed
                  (if_some-all (ahead_of s c1.input mid) (λ _. ⊤) (λ _. tt))
                  (λ bytes left is more. record {
                    is = record { feeds = so.feeds; recorded = so.recorded; journals = so.journals; right = so.right; begins = record { after = left; is = is } };
                    count_is = counts ∙ frames-same;
                    moves_are = moved ∙ moves_same ∙ so.moves_are;
                  });
              uncounted = ended.on.uncounted;
            }

        pub end-looked : TakesLog arena (ahead_of s demo old) (ahead_of s c1.input mid) (IsNeeded s old mid demo c1.input)
        end-looked = record {
          lines = lines ++ EndLine (length so.feeds) ∷ [];
          whole = record { feeds = so.feeds; recorded = so.recorded; journals = so.journals; right = so.right; lines_are = refl };
          read = ended.consumed;
          needed = record { unread = ended.on.unread; before_end = ended.on.before_end; free = read.free };
        }

      module _ (opens : OpensFrame c1 c1.input.given) where
        abbrev frame_line : OutLine
        frame_line = FrameLine (0 + length so.feeds)

        given-is : c1.input.given ≡ line_spelling frame_line
        given-is = opens.is ∙ ap (λ n. line_spelling (FrameLine n)) frames-zero

        below : length so.feeds < MOST_FRAMES
        below = let few = opens.few in let same = frames-same in omega (arith, few, same)

        ready : is_ready arena ≡ true
        ready = ap is_ready (sym map-same) ∙ opens.ready

        opened : ReadsLines s old mid demo c1.input (lines ++ frame_line ∷ [])
        opened = reads-both s old now mid demo c.input c1.input lines (frame_line ∷ []) so.reads (read-wanted s now mid c.input c1.input frame_line read given-is)

        -- the frame is missed
        pub frame-missed : (new : S) → MissesFed s mid new c1 → (before count : ℕ) → count ≡ c.input.count
            → Misses s old new demo (λ bytes. IsLogVerdict arena bytes before (Wrong (before + count + 1)))
        frame-missed new missed before count counts =
            let here : Misses s mid new c1.input (λ bytes. BeginsWithFed played bytes → ⊥) = subst (λ (u : CheckerView). Misses s mid new c1.input (λ bytes. BeginsWithFed u bytes → ⊥)) played_is missed in
            wrong-next new (HasNoFed played c1.input.given)
            (if_some-read (ahead_of s c.input now) (ahead_of s c1.input mid) (c1.input.given ++ 10 ∷ []) (λ bytes. BeginsWithFed played bytes → ⊥) (HasNoFed played c1.input.given) read.gives.consumed here.missed
            (λ bytes left is none. record { rest = left; is = is ∙ append_assoc c1.input.given (10 ∷ []) left; none = none }))
            (λ left nothing. no-fed arena so.feeds so.journals so.recorded so.right c.moves c1.input c1.input.given left given-is read.gives.one_line nothing) (here.uncounted ∙ read.on.uncounted) before count counts

        -- its beginning was looked at
        pub frame-looked : (new : S) (c' : CheckerView) → BeginsFed s mid new c1 c' → ReadsBeginning s (AreOfLog arena) old new demo c'.input
        frame-looked new c' begun =
            looked-after s old mid new demo c1.input c'.input (IsFed played) (AreOfLog arena) (lines ++ frame_line ∷ []) opened
            (λ ls fed. goes-on ls fed) (subst (λ (u : CheckerView). ReadsBeginning s (IsFed u) mid new c1.input c'.input) played_is begun)
          where
            goes-on : (ls : List OutLine) → IsFed played ls → IsWithin (AreOfLog arena) (lines ++ frame_line ∷ []) ls
            goes-on ls fed =
                let last = EndLine (length (so.feeds ++ fed.packets ∷ [])) ∷ [] in
                let here = fed_with fed.packets arena (0 + length so.feeds) (received_in arena (0 + length so.feeds) played.state fed.packets) fed.journal in
                let both = fed_lines-push arena 0 (opening arena) so.feeds fed.packets so.journals fed.journal (right_count arena 0 (opening arena) so.feeds so.journals so.right) in
                record {
                  after = last;
                  holds = record {
                    feeds = so.feeds ++ fed.packets ∷ [];
                    recorded = recorded-push arena so.feeds fed.packets so.recorded fed.frame below ready;
                    journals = so.journals ++ fed.journal ∷ [];
                    right = right-push arena 0 (opening arena) so.feeds fed.packets so.journals fed.journal so.right fed.right;
                    lines_are = ap (λ xs. (lines ++ frame_line ∷ []) ++ (xs ++ last)) fed.lines_are ∙ append_assoc lines (frame_line ∷ []) (here ++ last)
                        ∙ sym (append_assoc lines (frame_line ∷ here) last) ∙ ap (λ xs. xs ++ last) (sym both);
                  };
                }

        -- the frame was read
        pub frame-read : (new : S) (c' : CheckerView) → TakesFed s mid new c1 c' → FedSoFar s arena old new demo c'
        frame-read new c' fed =
            let t : TakesFed s mid new played c' = subst (λ (u : CheckerView). TakesFed s mid new u c') played_is fed in
            let f = t.packets in
            let j = t.taken.journal in
            let n = length so.feeds in
            let r = received_in arena (0 + n) played.state f in
            let here = fed_with f arena (0 + n) r j in
            let same = right_count arena 0 (opening arena) so.feeds so.journals so.right in
            let both : fed_lines arena 0 (opening arena) (so.feeds ++ f ∷ []) (so.journals ++ j ∷ []) ≡ lines ++ frame_line ∷ here = fed_lines-push arena 0 (opening arena) so.feeds f so.journals j same in
            let front = lines ++ frame_line ∷ [] in
            let split : front ++ here ≡ lines ++ frame_line ∷ here = append_assoc lines (frame_line ∷ []) here in
            let more = length-append so.feeds (f ∷ []) in
            let moves = run_moves-push arena 0 (opening arena) so.feeds f so.journals j same in
            let answers = answers_with arena (0 + n) r j in
            let froms = map_list from_line f in
            record {
              feeds = so.feeds ++ f ∷ [];
              recorded = recorded-push arena so.feeds f so.recorded t.frame below ready;
              journals = so.journals ++ j ∷ [];
              right = right-push arena 0 (opening arena) so.feeds f so.journals j so.right t.taken.reads.right;
              reads = subst (ReadsLines s old new demo c'.input) (split ∙ sym both) (reads-both s old mid new demo c1.input c'.input front here opened t.taken.reads.reads);
              whole = λ awaits. if_some-read (ahead_of s demo old) (ahead_of s c1.input mid) (text_of front) (λ bytes. (b : BeginsWith bytes (text_of here)) → EndsPackets b.after)
                  (λ bytes. (b : BeginsWith bytes (text_of (fed_lines arena 0 (opening arena) (so.feeds ++ f ∷ []) (so.journals ++ j ∷ [])))) → EndsPackets b.after) opened.consumed
                  (t.whole (sym (more-after lines frame_line here) ∙ ap may_have_more (sym both) ∙ awaits))
                  (λ bytes left is ends b. ends (record {
                    after = b.after;
                    is = append-same (text_of front) left (text_of here ++ b.after)
                        (sym is ∙ b.is ∙ ap (λ ls. text_of ls ++ b.after) (both ∙ sym split) ∙ ap (λ x. x ++ b.after) (text_of-append front here) ∙ append_assoc (text_of front) (text_of here) b.after);
                  }));
              map_is = t.taken.map_is;
              state_is = t.taken.state_is ∙ sym (state_played-push arena 0 (opening arena) so.feeds f so.journals j same);
              frames_are = (let fs = t.taken.frames_are in omega (arith, fs, more));
              moves_are = t.taken.moves_are ∙ ap (λ k. k + length r.lists.moves) so.moves_are ∙ sym moves;
              moves_few = (let m = t.taken.moves_are in let b = t.taken.moves_few in let a = so.moves_few in omega (arith, m, b, a, more));
              first = so.first;
              few = (let a = so.few in
                  let b : length (frame_line ∷ answers) ≤ 2000 = t.taken.few in
                  let d = t.frame.few in
                  let whole_long = ap length both ∙ length-append lines (frame_line ∷ here) in
                  let here_long = length-append froms answers in
                  let froms_long = length-map f from_line in
                  omega (arith, a, b, d, whole_long, here_long, froms_long, more));
              is = t.taken.is;
            }
