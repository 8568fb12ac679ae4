-- The lines of a frame that is fed: where its packets end, and what was read or missed of it.
use Rattle.std.proofs.Common.{◌≡◌, ℕ, true, false, List, [], ◌∷◌, ◌++◌, map, IfSome, refl, sym, ap, ◌∙◌, subst, arith, append-nil, append_assoc}
use Rattle.std.specs.List.{AllByRecursion}
use Rattle.edge_io.specs.declared.source.Source as sources
use Rattle.entity_recs.specs.declared.effect.Entry.{Entry}
use Rattle.arena_map.specs.Maps.{MapView, IsMap}
use Rattle.packet_read.specs.declared.arrival.Arrival.{Arrival}
use Rattle.client_ports.specs.States.{State, IsServerState}
use Rattle.plain_server.specs.Frames.{received_in, journal_of, IsRightAfter}
use Rattle.plain_server.proofs.Frames.{right_in_order}
use Rattle.demo_lines.specs.Spelling.{IsFrame}
use Rattle.out_text.specs.Feeds.{from_line, is_from_line}
use Rattle.out_text.specs.MatchLogs.{is_before_packets, may_have_more, EndsPackets}
use Rattle.out_text.specs.OutLines.{OutLine, FrameLine, FromLine, NoLine, JoinedLine, DidLine, ToLine, EndLine, line_spelling, text_of}
use Rattle.out_text.specs.Transcripts.{BeginsWith}
use Rattle.out_text.proofs.FedPackets.{frame-small, frame-bytes}
use Rattle.out_text.proofs.FedReadBack.{IsOther, rest_are_others}
use Rattle.out_text.proofs.Runs.{text_of-append}
use Rattle.out_text.proofs.ShortAnswers.{IsShortLine, answers_are_short}
use Rattle.transcript_check.specs.Checkers.{CheckerView, with_input, IsChecker}
use Rattle.transcript_check.specs.Packets.{ArePackets, HasNoPackets, ReadsPackets, fed_with, IsFed, BeginsWithFed, TakesFed, MissesFed, BeginsFed}
use Rattle.transcript_check.specs.Pieces.{answers_with, HasNoJournal, AreOfJournal, TakesFrame, MissesFrame, BeginsFrame}
use Rattle.transcript_check.specs.Reading.{InputView, ahead_of, ReadsBeginning, Misses}
use Rattle.transcript_check.proofs.FrameTaken.{Follow, frame-taken}
use Rattle.transcript_check.proofs.FromLines.{same-packets}
use Rattle.transcript_check.proofs.OneJournal.{text-next}
use Rattle.transcript_check.proofs.ReadingOn.{looked-within, looked-after}
use Rattle.transcript_check.proofs.Texts.{one_line, append-same, if_some-read, if_some-weaker, if_some-both}

-- ---- lines after which packets may come

-- the last line decides
pub more-after : (xs : List OutLine) (l : OutLine) (ls : List OutLine) → may_have_more (xs ++ l ∷ ls) ≡ may_have_more (l ∷ ls)
more-after [] l ls = refl
more-after (x ∷ []) l ls = refl
more-after (x ∷ y ∷ xs) l ls = more-after (y ∷ xs) l ls

other-ends : (l : OutLine) → IsOther l → is_before_packets l ≡ false
other-ends (FrameLine frame) other = absurd other
other-ends (FromLine port bytes) other = absurd other
other-ends (NoLine place why) other = refl
other-ends (JoinedLine port slot) other = refl
other-ends (DidLine did) other = refl
other-ends (ToLine slot bytes) other = refl
other-ends (EndLine frames) other = refl

others-end : (l : OutLine) (ls : List OutLine) → AllByRecursion IsOther (l ∷ ls) → may_have_more (l ∷ ls) ≡ false
others-end l [] others = other-ends l others.0
others-end l (k ∷ ls) others = others-end k ls others.1

other-not-from : (l : OutLine) → IsOther l → is_from_line (line_spelling l) ≡ false
other-not-from (FrameLine frame) other = absurd other
other-not-from (FromLine port bytes) other = absurd other
other-not-from (NoLine place why) other = refl
other-not-from (JoinedLine port slot) other = refl
other-not-from (DidLine did) other = refl
other-not-from (ToLine slot bytes) other = refl
other-not-from (EndLine frames) other = refl

froms-more : (a : Arrival) (packets : List Arrival) → may_have_more (from_line a ∷ (map from_line packets ++ [])) ≡ true
froms-more a [] = refl
froms-more a (b ∷ packets) = froms-more b packets

frame-more : (n : ℕ) (packets : List Arrival) → may_have_more (FrameLine n ∷ (map from_line packets ++ [])) ≡ true
frame-more n [] = refl
frame-more n (a ∷ packets) = froms-more a packets

-- an answer ends the packets, and so does what follows a frame without answers
pub ends-after : (n : ℕ) (packets : List Arrival) (answers : List OutLine) (after : List ℕ) → AllByRecursion IsOther answers → AllByRecursion IsShortLine answers
    → (may_have_more (FrameLine n ∷ (map from_line packets ++ answers)) ≡ true → EndsPackets after) → EndsPackets (text_of answers ++ after)
ends-after n packets [] after others short whole = whole (frame-more n packets)
ends-after n packets (l ∷ ls) after others short whole = record {
  line = line_spelling l;
  after = text_of ls ++ after;
  is = text-next l ls after;
  one_line = one_line l;
  fits = (let long = short.0 in omega (arith, long));
  other = other-not-from l others.0;
}

-- where the frame has an answer, no packets may come
no-more : (n : ℕ) (packets : List Arrival) (l : OutLine) (ls : List OutLine) → AllByRecursion IsOther (l ∷ ls) → may_have_more (FrameLine n ∷ (map from_line packets ++ l ∷ ls)) ≡ true → ⊥
no-more n packets l ls others is =
    let never : true ≡ false = sym is ∙ more-after (FrameLine n ∷ map from_line packets) l ls ∙ others-end l ls others in
    cc

-- ---- the answers of a frame

pub answers-others : (arena : MapView) (frame : ℕ) (state : State) (packets : List Arrival) (journal : List Entry) → AllByRecursion IsOther (answers_with arena frame (received_in arena frame state packets) journal)
answers-others arena frame state packets journal = rest_are_others arena frame (received_in arena frame state packets) journal

pub answers-short : (arena : MapView) (frame : ℕ) (state : State) (packets : List Arrival) (journal : List Entry) → IsMap arena → IsServerState arena state → IsFrame packets
    → IsRightAfter arena (received_in arena frame state packets) journal → AllByRecursion IsShortLine (answers_with arena frame (received_in arena frame state packets) journal)
answers-short arena frame state packets journal is_map is fits right =
    answers_are_short arena frame state packets journal is_map is (frame-bytes packets fits) (frame-small packets fits) right

-- the lines of the packets, where those of the frame are, and a line that ends them
pub record HasPackets (c : CheckerView) (bytes : List ℕ) (packets : List Arrival) (journal : List Entry) : Type 0 where
  pub begins : BeginsWith bytes (text_of (map from_line packets))
  pub ends : EndsPackets begins.after
  pub answers : BeginsWith begins.after (text_of (answers_with c.map c.frames (received_in c.map c.frames c.state packets) journal))

pub fed-packets : (c : CheckerView) (bytes : List ℕ) → IsChecker c.map c.state → (b : BeginsWithFed c bytes) → HasPackets c bytes b.fed.packets b.fed.journal
fed-packets c bytes is b =
    let f = b.fed in
    let froms = map from_line f.packets in
    let answers = answers_with c.map c.frames (received_in c.map c.frames c.state f.packets) f.journal in
    let text : text_of b.these ≡ text_of froms ++ text_of answers = ap text_of f.lines_are ∙ text_of-append froms answers in
    record {
      begins = record {
        after = text_of answers ++ b.begins.after;
        is = b.begins.is ∙ ap (λ t. t ++ b.begins.after) text ∙ append_assoc (text_of froms) (text_of answers) b.begins.after;
      };
      ends = ends-after c.frames f.packets answers b.begins.after (answers-others c.map c.frames c.state f.packets f.journal)
          (answers-short c.map c.frames c.state f.packets f.journal is.is_map is.fits f.frame f.right)
          (λ more. b.whole (ap (λ ls. may_have_more (FrameLine c.frames ∷ ls)) f.lines_are ∙ more));
      answers = record { after = b.begins.after; is = refl };
    }

module _ {S : Type 0} (s : sources.Ghosts S) (old mid : S) (c : CheckerView) (is : IsChecker c.map c.state) where
  -- the packets are missed
  pub packets-missed : Misses s old mid c.input HasNoPackets → MissesFed s old mid c
  packets-missed missed = record {
    missed = if_some-weaker (ahead_of s c.input old) _ _ missed.missed
        (λ bytes none b. (let has = fed-packets c bytes is b in none b.fed.packets b.fed.frame has.begins has.ends));
    uncounted = missed.uncounted;
  }

  pub packets-looked : (c' : CheckerView) → ReadsBeginning s ArePackets old mid c.input c'.input → BeginsFed s old mid c c'
  packets-looked c' begun =
      looked-within s old mid c.input c'.input ArePackets (IsFed c)
      (λ ls are. (let r = received_in c.map c.frames c.state are.packets in
      let journal = journal_of c.map r in
      record {
        after = answers_with c.map c.frames r journal;
        holds = record {
          packets = are.packets;
          frame = are.frame;
          journal = journal;
          right = (right_in_order c.map c.frames c.state (are.packets ∷ [])).0;
          lines_are = ap (λ xs. xs ++ answers_with c.map c.frames r journal) are.lines_are;
        };
      })) begun

  module _ (e : InputView) (packets : List Arrival) (reads : ReadsPackets s old mid c.input e packets) where
    follow : Follow (fed_with packets) answers_with c packets (map from_line packets)
    follow journal = refl

    -- the answers are missed
    pub answers-missed : (new : S) → MissesFrame s answers_with mid new (with_input c e) packets → MissesFed s old new c
    answers-missed new missed = record {
      missed = if_some-read (ahead_of s c.input old) (ahead_of s e mid) (text_of (map from_line packets)) _ (λ bytes. BeginsWithFed c bytes → ⊥) reads.reads.consumed
          (if_some-both (ahead_of s e mid) EndsPackets _ reads.ends missed.missed) (λ bytes left is_there both b. there bytes left is_there both.0 both.1 b);
      uncounted = missed.uncounted ∙ reads.reads.on.uncounted;
    }
      where
        there : (bytes left : List ℕ) → bytes ≡ text_of (map from_line packets) ++ left → EndsPackets left
            → HasNoJournal (IsRightAfter c.map (received_in c.map c.frames c.state packets)) (answers_with c.map c.frames (received_in c.map c.frames c.state packets)) left → BeginsWithFed c bytes → ⊥
        there bytes left is_there ends none b =
            let has = fed-packets c bytes is b in
            let same : b.fed.packets ≡ packets = same-packets packets reads.frame.each bytes left is_there ends b.fed.packets b.fed.frame has.begins has.ends in
            let left_is : left ≡ has.begins.after =
            append-same (text_of (map from_line packets)) left has.begins.after (sym is_there ∙ has.begins.is ∙ ap (λ f. text_of (map from_line f) ++ has.begins.after) same) in
            none b.fed.journal (subst (λ (f : List Arrival). IsRightAfter c.map (received_in c.map c.frames c.state f) b.fed.journal) same b.fed.right)
            (subst (λ (l : List ℕ). BeginsWith l (text_of (answers_with c.map c.frames (received_in c.map c.frames c.state packets) b.fed.journal))) (sym left_is)
            (subst (λ (f : List Arrival). BeginsWith has.begins.after (text_of (answers_with c.map c.frames (received_in c.map c.frames c.state f) b.fed.journal))) same has.answers))

    pub answers-looked : (new : S) (c' : CheckerView) → BeginsFrame s answers_with mid new (with_input c e) c' packets → BeginsFed s old new c c'
    answers-looked new c' begun =
        looked-after s old mid new c.input e c'.input (AreOfJournal (IsRightAfter c.map (received_in c.map c.frames c.state packets)) (answers_with c.map c.frames (received_in c.map c.frames c.state packets))) (IsFed c)
        (map from_line packets) reads.reads
        (λ ls are. record {
          after = [];
          holds = record {
            packets = packets;
            frame = reads.frame;
            journal = are.journal;
            right = are.right;
            lines_are = ap (λ xs. map from_line packets ++ xs) (append-nil ls ∙ are.lines_are);
          };
        }) begun

    -- where no answer was read, a line follows that ends the packets
    whole-there : (answers : List OutLine) → AllByRecursion IsOther answers → may_have_more (FrameLine c.frames ∷ (map from_line packets ++ answers)) ≡ true
        → IfSome (ahead_of s c.input old) (λ bytes. (b : BeginsWith bytes (text_of (map from_line packets ++ answers))) → EndsPackets b.after)
    whole-there [] others more =
        if_some-read (ahead_of s c.input old) (ahead_of s e mid) (text_of (map from_line packets)) EndsPackets (λ bytes. (b : BeginsWith bytes (text_of (map from_line packets ++ []))) → EndsPackets b.after)
        reads.reads.consumed reads.ends
        (λ bytes left is_there ends b. subst EndsPackets
        (append-same (text_of (map from_line packets)) left b.after (sym is_there ∙ b.is ∙ ap (λ ls. text_of ls ++ b.after) (append-nil (map from_line packets)))) ends)
    whole-there (l ∷ ls) others more = absurd (no-more c.frames packets l ls others more)

    pub answers-taken : (new : S) (c' : CheckerView) → TakesFrame s answers_with mid new (with_input c e) c' packets → TakesFed s old new c c'
    answers-taken new c' taken =
        let whole_frame = frame-taken s (fed_with packets) answers_with old mid c e packets (map from_line packets) follow reads.reads new c' taken in
        record {
          packets = packets;
          frame = reads.frame;
          taken = whole_frame;
          whole = λ more. whole-there (answers_with c.map c.frames (received_in c.map c.frames c.state packets) whole_frame.journal)
              (answers-others c.map c.frames c.state packets whole_frame.journal) more;
        }
