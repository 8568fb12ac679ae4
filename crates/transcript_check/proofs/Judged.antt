-- A verdict on what follows a recording is one on the whole input.
use Rattle.std.proofs.Common.{◌≡◌, ℕ, ◌≤◌, true, false, List, [], ◌∷◌, ◌++◌, length, Option, Some, None, IfSome, sym, ap, ◌∙◌, subst, append-nil, arith}
use Rattle.std.specs.List.{AllByRecursion}
use Rattle.std.specs.Io.KnownBytes.{Consumes}
use Rattle.edge_io.specs.declared.source.Source as sources
use Rattle.edge_io.specs.Counts.{HasRisen}
use Rattle.edge_io.specs.Lines.{ahead, HasNotReadAhead}
use Rattle.arena_map.specs.declared.limits.TheConstants.{MOST_FRAMES}
use Rattle.arena_map.specs.Maps.{MapView}
use Rattle.packet_read.specs.declared.arrival.Arrival.{Arrival}
use Rattle.demo_lines.specs.declared.demo_stop.DemoStop.{DemoStop}
use Rattle.demo_lines.specs.declared.event.Event.{Event}
use Rattle.demo_lines.specs.declared.stage.Stage.TheVariants.{Ended}
use Rattle.demo_lines.specs.Known.{Reading, start_within, is_over}
use Rattle.demo_lines.specs.Recording.{events_of}
use Rattle.demo_lines.specs.Bytes.{fault_within, map_within, lines_of, last_part, refused_at, refused_where}
use Rattle.demo_lines.specs.Reads.{DemoReaderView, Reads, map_taken}
use Rattle.demo_lines.proofs.Continuing.{Continues, continues}
use Rattle.demo_lines.proofs.Counting.{counted-lines}
use Rattle.demo_lines.proofs.Ends.{after-over, events_of-over}
use Rattle.out_text.specs.Collecting.{Frames, frames_of_events, frames_within}
use Rattle.out_text.proofs.Fewness.{frames_are_few_of}
use Rattle.out_text.proofs.SmallFrames.{IsSmallFrame, frames_are_small_of}
use Rattle.out_text.specs.OutLines.{OutLine, text_of}
use Rattle.transcript_check.specs.Reading.{InputView, ahead_of, IsNeeded, TakesBeginning, Misses, ReadFails}
use Rattle.transcript_check.specs.Looked.{AreOfOutput, LooksAt, ReadsTranscript}
use Rattle.transcript_check.specs.Audits.{AreOfLog, IsLogVerdict, LooksAtLog, JudgesLog}
use Rattle.transcript_check.specs.Recorded.{ReadsRecording}
use Rattle.transcript_check.specs.Verdicts.{IsShort, IsVerdict, HasEndAt, Judges, StopsChecking}
use Rattle.transcript_check.specs.declared.verdict.Verdict.{Verdict}
use Rattle.transcript_check.specs.declared.verdict.Verdict.TheVariants.{Right, Wrong}
use Rattle.transcript_check.proofs.Texts.{if_some-weaker}
use Rattle.transcript_check.proofs.HeldLines.{free-ahead, last-free}

short-frames : (frames : List (List Arrival)) → AllByRecursion IsSmallFrame frames → AllByRecursion IsShort frames
short-frames [] small = tt
short-frames (x ∷ frames) small = (small.0.few, short-frames frames small.1)

-- bytes are a recording without a fault, with this map and these frames, and then a rest with P of it and of the number of
-- the recording's last line
pub record IsParted (limit : ℕ) (arena : MapView) (frames : List (List Arrival)) (P : List ℕ → ℕ → Type 0) (bytes : List ℕ) : Type 0 where
  pub accepted : fault_within limit bytes ≡ None
  pub map_is : map_within limit bytes ≡ Some arena
  pub frames_are : frames_within limit bytes ≡ frames
  pub rest : List ℕ
  pub end_line : ℕ
  pub parts : HasEndAt limit bytes end_line rest
  pub is : P rest end_line

module _ (limit : ℕ) (r : Reading) (es : List Event) (arena : MapView) (frames : Frames) (P : List ℕ → ℕ → Type 0) where
  whole : (bytes rest : List ℕ) → Continues (start_within limit) r es bytes rest → Reads (start_within limit) r (Some bytes) (Some rest) es → frames ≡ frames_of_events es → r.stage ≡ Ended
      → r.map ≡ Some arena → P rest r.lines → IsParted limit arena frames.closed P bytes
  whole bytes rest so reads frames_are ended map_is is =
      let over : is_over r.stage ≡ true = ap is_over ended in
      let none = events_of-over r (lines_of rest) over in
      let all : frames_within limit bytes ≡ frames.closed =
      ap (λ (ls : List Event). (frames_of_events ls).closed) (so.events_are ∙ ap (λ (ls : List Event). es ++ ls) none ∙ append-nil es) ∙ ap (λ (f : Frames). f.closed) (sym frames_are) in
      let counts = counted-lines (start_within limit) reads.lines reads.going in
      record {
        accepted = so.fault_is ∙ ap (λ (t : Reading). refused_where t (last_part rest)) (after-over r (lines_of rest) over) ∙ ap (λ stage. refused_at stage r (last_part rest)) ended;
        map_is = so.map_is ∙ ap (λ (t : Reading). t.map) (after-over r (lines_of rest) over) ∙ map_is;
        frames_are = all;
        rest = rest;
        end_line = r.lines;
        parts = record {
          lines = reads.lines;
          text = reads.text;
          each = reads.each;
          spelled = reads.spelled;
          bytes_are = reads.consumed;
          ended = ap (λ (t : Reading). t.stage) (sym reads.reached) ∙ ended;
          going = reads.going;
          number = (let here = ap (λ (t : Reading). t.lines) reads.reached in omega (arith, here, counts));
        };
        is = is;
      }

  parted : (a b : Option (List ℕ)) → Reads (start_within limit) r a b es → frames ≡ frames_of_events es → r.stage ≡ Ended → r.map ≡ Some arena
      → IfSome b (λ rest. P rest r.lines) → IfSome a (IsParted limit arena frames.closed P)
  parted None b reads frames_are ended map_is is = tt
  parted (Some bytes) None reads frames_are ended map_is is = absurd reads.consumed
  parted (Some bytes) (Some rest) reads frames_are ended map_is is =
      let so : Continues (start_within limit) r es bytes rest =
      continues (start_within limit) r (Some bytes) (Some rest) es (λ bs. Continues (start_within limit) r es bs rest) reads
      (λ bs left is so. (let same : left ≡ rest = cc in subst (Continues (start_within limit) r es bs) same so)) in
      whole bytes rest so reads frames_are ended map_is is

-- what was looked at, as of the reader alone
beginning-free : {S : Type 0} (s : sources.Ghosts S) (Wanted : List OutLine → Type 0) (old : Option (List ℕ)) (a b : S) (d e : InputView)
    → TakesBeginning Wanted old (ahead_of s e b) (IsNeeded s a b d e) (s.ended b ≡ true)
    → TakesBeginning Wanted old (ahead e.demo.pending (s.left b)) (HasNotReadAhead a b (s.last b) d.demo.pending e.demo.pending × (s.ended b ≡ s.ended a)) (s.ended b ≡ true)
beginning-free s Wanted old a b d e begun = record {
  front = begun.front;
  more = begun.more;
  wanted = begun.wanted;
  left = begun.left;
  read = begun.read;
  last = last-free s begun.left a b d e (s.ended b ≡ true) begun.last;
}

-- of an output
looks-free : {S : Type 0} (s : sources.Ghosts S) (verdict : Verdict) (arena : MapView) (frames : List (List Arrival)) (old : Option (List ℕ)) (a b : S) (d e : InputView)
    → LooksAt verdict arena frames old (ahead_of s e b) (IsNeeded s a b d e) (s.ended b ≡ true)
    → LooksAt verdict arena frames old (ahead e.demo.pending (s.left b)) (HasNotReadAhead a b (s.last b) d.demo.pending e.demo.pending × (s.ended b ≡ s.ended a)) (s.ended b ≡ true)
looks-free s (Right count moves) arena frames old a b d e looks = record {
  lines = looks.lines;
  whole = looks.whole;
  read = subst (λ (o : Option (List ℕ)). Consumes old o (text_of looks.lines)) (free-ahead e.held e.given e.demo.pending (s.left b) looks.needed.free) looks.read;
  needed = (looks.needed.unread, looks.needed.before_end);
}
looks-free s (Wrong line) arena frames old a b d e looks = beginning-free s (AreOfOutput arena frames) old a b d e looks

-- and of a log
log-looks-free : {S : Type 0} (s : sources.Ghosts S) (verdict : Verdict) (arena : MapView) (frames : List (List Arrival)) (old : Option (List ℕ)) (a b : S) (d e : InputView)
    → LooksAtLog verdict arena [] old (ahead_of s e b) (IsNeeded s a b d e) (s.ended b ≡ true)
    → LooksAtLog verdict arena frames old (ahead e.demo.pending (s.left b)) (HasNotReadAhead a b (s.last b) d.demo.pending e.demo.pending × (s.ended b ≡ s.ended a)) (s.ended b ≡ true)
log-looks-free s (Right count moves) arena frames old a b d e looks = record {
  lines = looks.lines;
  whole = looks.whole;
  read = subst (λ (o : Option (List ℕ)). Consumes old o (text_of looks.lines)) (free-ahead e.held e.given e.demo.pending (s.left b) looks.needed.free) looks.read;
  needed = (looks.needed.unread, looks.needed.before_end);
}
log-looks-free s (Wrong line) arena frames old a b d e looks = beginning-free s (AreOfLog arena) old a b d e looks

module _ {S : Type 0} (s : sources.Ghosts S) (limit : ℕ) (source source' : S) (demo : DemoReaderView) (frames : Frames) (read : ReadsRecording s limit source source' demo frames) where
  -- the frames of a recording that was read are few
  pub read-few : limit ≤ MOST_FRAMES → length frames.closed ≤ MOST_FRAMES
  read-few few =
      let here : frames ≡ frames_of_events (events_of (start_within limit) read.reads.lines) = read.frames_are ∙ ap frames_of_events (sym read.reads.events) in
      let most = frames_are_few_of limit read.reads.lines in
      let same = ap (λ (f : Frames). length f.closed) here in
      omega (arith, few, most, same)

  -- and short
  pub read-short : AllByRecursion IsShort frames.closed
  read-short =
      let here : frames ≡ frames_of_events (events_of (start_within limit) read.reads.lines) = read.frames_are ∙ ap frames_of_events (sym read.reads.events) in
      subst (AllByRecursion IsShort) (ap (λ (f : Frames). f.closed) (sym here)) (short-frames (frames_of_events (events_of (start_within limit) read.reads.lines)).closed (frames_are_small_of limit read.reads.lines))

  module _ (source'' : S) (input input'' : InputView) (arena : MapView) (taken : input.demo ≡ map_taken demo) (free : input.held ≡ false) (map_is : demo.reading.map ≡ Some arena) where
    started : ahead_of s input source' ≡ ahead demo.pending (s.left source')
    started = free-ahead input.held input.given input.demo.pending (s.left source') free ∙ ap (λ (d : DemoReaderView). ahead d.pending (s.left source')) taken

    -- P of what follows is P of the rest of the whole
    pub read-parted : (P : List ℕ → ℕ → Type 0) → Misses s source' source'' input (λ rest. P rest demo.reading.lines) → IfSome (s.left source) (IsParted limit arena frames.closed P)
    read-parted P missed =
        parted limit demo.reading read.events arena frames P (s.left source) (ahead demo.pending (s.left source')) read.reads read.frames_are read.ended map_is
        (subst (λ (o : Option (List ℕ)). IfSome o (λ rest. P rest demo.reading.lines)) started missed.missed)

    -- what was looked at after the recording
    pub read-looked : (Looks : MapView → List (List Arrival) → Option (List ℕ) → Option (List ℕ) → Type 0 → Type 0 → Type 0)
        → Looks arena frames.closed (ahead_of s input source') (ahead input''.demo.pending (s.left source''))
        (HasNotReadAhead source' source'' (s.last source'') input.demo.pending input''.demo.pending × (s.ended source'' ≡ s.ended source')) (s.ended source'' ≡ true)
        → ReadsTranscript s limit source source'' Looks
    read-looked Looks looks = record {
      between = source';
      recording = record {
        lines = read.reads.lines;
        text = read.reads.text;
        buffered = demo.pending;
        each = read.reads.each;
        spelled = read.reads.spelled;
        consumed = read.reads.consumed;
        ended = ap (λ (t : Reading). t.stage) (sym read.reads.reached) ∙ read.ended;
        going = read.reads.going;
        needed = read.needed;
      };
      map = arena;
      map_is = ap (λ (t : Reading). t.map) (sym read.reads.reached) ∙ map_is;
      buffered = input''.demo.pending;
      looks = (let here : frames ≡ frames_of_events (events_of (start_within limit) read.reads.lines) = read.frames_are ∙ ap frames_of_events (sym read.reads.events) in
          let Here : DemoReaderView → Frames → Option (List ℕ) → Type 0 = λ d fs o.
          Looks arena fs.closed o (ahead input''.demo.pending (s.left source''))
          (HasNotReadAhead source' source'' (s.last source'') d.pending input''.demo.pending × (s.ended source'' ≡ s.ended source')) (s.ended source'' ≡ true) in
          subst (λ (o : Option (List ℕ)). Here (map_taken demo) (frames_of_events (events_of (start_within limit) read.reads.lines)) o) started
          (subst (λ (fs : Frames). Here (map_taken demo) fs (ahead_of s input source')) here (subst (λ (d : DemoReaderView). Here d frames (ahead_of s input source')) taken looks)));
    }

    -- a verdict on what follows is one on the whole
    pub read-judged : (verdict : Verdict) → Misses s source' source'' input (λ rest. IsVerdict arena frames.closed rest demo.reading.lines verdict)
        → LooksAt verdict arena frames.closed (ahead_of s input source') (ahead_of s input'' source'') (IsNeeded s source' source'' input input'') (s.ended source'' ≡ true)
        → Judges s limit source source'' verdict
    read-judged verdict missed looks = record {
      judged = if_some-weaker (s.left source) _ _ (read-parted (λ rest line. IsVerdict arena frames.closed rest line verdict) missed)
          (λ bytes is. record {
            accepted = is.accepted;
            map = arena;
            map_is = is.map_is;
            rest = is.rest;
            end_line = is.end_line;
            parts = is.parts;
            is = subst (λ (fs : List (List Arrival)). IsVerdict arena fs is.rest is.end_line verdict) (sym is.frames_are) is.is;
          });
      read = read-looked (LooksAt verdict) (looks-free s verdict arena frames.closed (ahead_of s input source') source' source'' input input'' looks);
      reads = missed.uncounted ∙ read.uncounted;
    }

    -- and so is one on a log
    pub read-log-judged : (verdict : Verdict) → limit ≡ 0 → Misses s source' source'' input (λ log. IsLogVerdict arena log demo.reading.lines verdict)
        → LooksAtLog verdict arena [] (ahead_of s input source') (ahead_of s input'' source'') (IsNeeded s source' source'' input input'') (s.ended source'' ≡ true)
        → JudgesLog s source source'' verdict
    read-log-judged verdict none missed looks = record {
      judged = if_some-weaker (s.left source) _ _ (read-parted (λ log line. IsLogVerdict arena log line verdict) missed)
          (λ bytes is. record {
            accepted = subst (λ (n : ℕ). fault_within n bytes ≡ None) none is.accepted;
            map = arena;
            map_is = subst (λ (n : ℕ). map_within n bytes ≡ Some arena) none is.map_is;
            log = is.rest;
            end_line = is.end_line;
            parts = subst (λ (n : ℕ). HasEndAt n bytes is.end_line is.rest) none is.parts;
            is = is.is;
          });
      read = subst (λ (n : ℕ). ReadsTranscript s n source source'' (LooksAtLog verdict)) none
          (read-looked (LooksAtLog verdict) (log-looks-free s verdict arena frames.closed (ahead_of s input source') source' source'' input input'' looks));
      reads = missed.uncounted ∙ read.uncounted;
    }

-- a read that fails while the lines after the recording are compared
pub stops-comparing : {S : Type 0} (s : sources.Ghosts S) (limit : ℕ) (source mid new : S) (demo : DemoReaderView) (input : InputView) (recorded : Frames) (stop : DemoStop)
    → input.demo ≡ map_taken demo → ReadsRecording s limit source mid demo recorded → ReadFails s mid new input stop → StopsChecking s limit source new stop
stops-comparing s limit source mid new demo input recorded stop taken read fails =
    subst (StopsChecking s limit source new) (sym fails.is) (record {
      before_end = fails.before_end ∙ read.before_end (sym (ap (λ (d : DemoReaderView). d.cut) taken) ∙ fails.not_cut);
      fault = subst (λ (n : ℕ). HasRisen n (s.faults new)) read.uncounted fails.fault;
      later = subst (λ (n : ℕ). n ≤ s.faults new) read.uncounted fails.later;
      fails = λ sure. fails.fails (read.keeps sure);
    })
