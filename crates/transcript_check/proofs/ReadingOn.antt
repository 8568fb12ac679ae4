-- Lines that are read or missed after others.
use Rattle.std.proofs.Common.{◌≡◌, ◌⊎◌, inl, inr, true, Option, ℕ, zero, suc, ◌+◌, ◌-◌, ◌^◌, ◌≤◌, min, List, [], ◌∷◌, ◌++◌, length, refl, sym, ap, ◌∙◌, subst, arith, append_assoc, append-nil, length-append}
use Rattle.std.specs.Io.KnownBytes.{Consumes, IsAtEnd}
use Rattle.std.proofs.KnownBytes.{Consumes-nil, Consumes-trans}
use Rattle.edge_io.specs.declared.source.Source as sources
use Rattle.edge_io.specs.Counts.{HasRisen}
use Rattle.edge_io.proofs.ReadingAhead.{HasNotReadAhead-same, HasNotReadAhead-trans}
use Rattle.demo_lines.specs.declared.rest.TheConstants.{LONGEST_REST}
use Rattle.demo_lines.specs.declared.demo_stop.DemoStop.{DemoStop}
use Rattle.demo_lines.specs.Rest.{HasNoRestLine, TakesLineAtMost}
use Rattle.out_text.specs.OutLines.{OutLine, line_spelling, printed_line, text_of}
use Rattle.out_text.specs.Transcripts.{BeginsWith}
use Rattle.out_text.proofs.Runs.{text_of-append}
use Rattle.transcript_check.specs.Reading.{InputView, count_after, ahead_of, MayRead, IsNeeded, GoesOn, ReadsLine, ReadsLines, ReadsOneAtMost, ReadsBeginning, Misses, ReadFails}
use Rattle.transcript_check.proofs.Texts.{text_of-one, missed-none, missed-other, missed-after, missed-front, missed-one}

-- counts add up
pub counted-both : (n a b : ℕ) → count_after (count_after n a) b ≡ count_after n (a + b)
counted-both n zero b = ap (count_after n) (let same : b ≡ 0 + b = omega arith in same)
counted-both n (suc a) zero = ap (count_after n) (let same : suc a ≡ suc a + 0 = omega arith in same)
counted-both n (suc a) (suc b) =
    let both : min (min (n + suc a) (2 ^ 64 - 1) + suc b) (2 ^ 64 - 1) ≡ min (n + suc (a + suc b)) (2 ^ 64 - 1) = omega arith in
    both ∙ ap (count_after n) (let same : suc (a + suc b) ≡ suc a + suc b = omega arith in same)

module _ {S : Type 0} (s : sources.Ghosts S) where
  pub on-none : (old : S) (demo : InputView) → MayRead s demo old → GoesOn s old old demo demo
  on-none old demo may = record { may = may; same = refl; cut = refl; unread = HasNotReadAhead-same s.last old demo.demo.pending; before_end = refl; uncounted = refl; keeps = λ sure. sure }

  pub on-both : (a b c : S) (d e f : InputView) → GoesOn s a b d e → GoesOn s b c e f → GoesOn s a c d f
  on-both a b c d e f one more = record {
    may = more.may;
    same = more.same ∙ one.same;
    cut = more.cut ∙ one.cut;
    unread = HasNotReadAhead-trans s.last a b c d.demo.pending e.demo.pending f.demo.pending one.unread more.unread;
    before_end = more.before_end ∙ one.before_end;
    uncounted = more.uncounted ∙ one.uncounted;
    keeps = λ sure. more.keeps (one.keeps sure);
  }

  -- nothing was read
  pub reads-none : (old : S) (demo : InputView) → MayRead s demo old → ReadsLines s old old demo demo []
  reads-none old demo may = record { consumed = Consumes-nil (ahead_of s demo old); on = on-none old demo may; count_is = refl }

  -- lines after lines
  pub reads-both : (a b c : S) (d e f : InputView) (xs ys : List OutLine) → ReadsLines s a b d e xs → ReadsLines s b c e f ys → ReadsLines s a c d f (xs ++ ys)
  reads-both a b c d e f xs ys one more = record {
    consumed = subst (Consumes (ahead_of s d a) (ahead_of s f c)) (sym (text_of-append xs ys))
        (Consumes-trans (ahead_of s d a) (ahead_of s e b) (ahead_of s f c) (text_of xs) (text_of ys) one.consumed more.consumed);
    on = on-both a b c d e f one.on more.on;
    count_is = more.count_is ∙ ap (λ n. count_after n (length ys)) one.count_is ∙ counted-both d.count (length xs) (length ys) ∙ ap (count_after d.count) (sym (length-append xs ys));
  }

  -- lines that are missed after lines
  pub misses-after : (a b c : S) (d e : InputView) (xs ys : List OutLine) → ReadsLines s a b d e xs → Misses s b c e (λ bytes. BeginsWith bytes (text_of ys) → ⊥)
      → Misses s a c d (λ bytes. BeginsWith bytes (text_of (xs ++ ys)) → ⊥)
  misses-after a b c d e xs ys one more = record {
    missed = missed-after (ahead_of s d a) (ahead_of s e b) xs ys one.consumed more.missed;
    uncounted = more.uncounted ∙ one.on.uncounted;
  }

  -- lines whose front is missed
  pub misses-front : (a c : S) (d : InputView) (xs ys : List OutLine) → Misses s a c d (λ bytes. BeginsWith bytes (text_of xs) → ⊥) → Misses s a c d (λ bytes. BeginsWith bytes (text_of (xs ++ ys)) → ⊥)
  misses-front a c d xs ys one = record { missed = missed-front (ahead_of s d a) xs ys one.missed; uncounted = one.uncounted }

  pub misses-one : (a c : S) (d : InputView) (l : OutLine) → Misses s a c d (λ bytes. BeginsWith bytes (printed_line l) → ⊥) → Misses s a c d (λ bytes. BeginsWith bytes (text_of (l ∷ [])) → ⊥)
  misses-one a c d l one = record { missed = missed-one (ahead_of s d a) l one.missed; uncounted = one.uncounted }

  -- a read that fails after lines
  pub fails-after : (a b c : S) (d e : InputView) (stop : DemoStop) → GoesOn s a b d e → ReadFails s b c e stop → ReadFails s a c d stop
  fails-after a b c d e stop one fails = record {
    is = fails.is;
    not_cut = sym one.cut ∙ fails.not_cut;
    before_end = fails.before_end ∙ one.before_end;
    fault = subst (λ (n : ℕ). HasRisen n (s.faults c)) one.uncounted fails.fault;
    later = subst (λ (n : ℕ). n ≤ s.faults c) one.uncounted fails.later;
    fails = λ sure. fails.fails (one.keeps sure);
  }

  -- the line that was read is this one
  pub read-wanted : (a b : S) (d e : InputView) (l : OutLine) → ReadsLine s a b d e → e.given ≡ line_spelling l → ReadsLines s a b d e (l ∷ [])
  read-wanted a b d e l one is = record {
    consumed = subst (Consumes (ahead_of s d a) (ahead_of s e b)) (ap (λ t. t ++ 10 ∷ []) is ∙ sym (text_of-one l)) one.gives.consumed;
    on = one.on;
    count_is = one.count_is;
  }

  -- another one was read
  pub misses-other : (a b : S) (d e : InputView) (l : OutLine) → ReadsLine s a b d e → (e.given ≡ line_spelling l → ⊥) → Misses s a b d (λ bytes. BeginsWith bytes (printed_line l) → ⊥)
  misses-other a b d e l one other = record { missed = missed-other (ahead_of s d a) (ahead_of s e b) e.given l one.gives other; uncounted = one.on.uncounted }

  -- none was there
  pub misses-none : (a b : S) (d : InputView) (l : OutLine) → Misses s a b d HasNoRestLine → length (line_spelling l) ≤ LONGEST_REST → Misses s a b d (λ bytes. BeginsWith bytes (printed_line l) → ⊥)
  misses-none a b d l none short = record { missed = missed-none (ahead_of s d a) l none.missed short; uncounted = none.uncounted }

-- the first of these lines were read, and those are left
pub record ReadsSome {S : Type 0} (s : sources.Ghosts S) (old now : S) (demo demo' : InputView) (all left : List OutLine) : Type 0 where
  pub front : List OutLine
  pub reads : ReadsLines s old now demo demo' front
  pub all_are : all ≡ front ++ left

module _ {S : Type 0} (s : sources.Ghosts S) where
  pub some-first : (old : S) (demo : InputView) (all left : List OutLine) → MayRead s demo old → all ≡ left → ReadsSome s old old demo demo all left
  some-first old demo all left may same = record { front = []; reads = reads-none s old demo may; all_are = same }

  -- lines more
  pub some-next : (a b c : S) (d e f : InputView) (all more left : List OutLine) → ReadsSome s a b d e all (more ++ left) → ReadsLines s b c e f more → ReadsSome s a c d f all left
  some-next a b c d e f all more left some reads = record {
    front = some.front ++ more;
    reads = reads-both s a b c d e f some.front more some.reads reads;
    all_are = some.all_are ∙ sym (append_assoc some.front more left);
  }

  -- they are missed
  pub some-missed : (a b c : S) (d e : InputView) (all more left : List OutLine) → ReadsSome s a b d e all (more ++ left)
      → Misses s b c e (λ bytes. BeginsWith bytes (text_of more) → ⊥) → Misses s a c d (λ bytes. BeginsWith bytes (text_of all) → ⊥)
  some-missed a b c d e all more left some missed =
      subst (λ (ls : List OutLine). Misses s a c d (λ bytes. BeginsWith bytes (text_of ls) → ⊥)) (append_assoc some.front more left ∙ sym some.all_are)
      (misses-front s a c d (some.front ++ more) left (misses-after s a b c d e some.front more some.reads missed))

  -- all were read
  pub some-all : (a b : S) (d e : InputView) (all left : List OutLine) → left ≡ [] → ReadsSome s a b d e all left → ReadsLines s a b d e all
  some-all a b d e all left none some =
      subst (ReadsLines s a b d e) (sym (some.all_are ∙ ap (λ ls. some.front ++ ls) none ∙ append-nil some.front)) some.reads

-- ---- what was looked at

-- one line at most, for another reason
pub at_most-weaker : (a b : Option (List ℕ)) (P R Q : Type 0) → TakesLineAtMost a b P Q → (P → R) → TakesLineAtMost a b R Q
at_most-weaker a b P R Q one then = record { line = one.line; feed = one.feed; consumed = one.consumed; one_line = one.one_line; fits = one.fits; ends = by one.ends }
  where
    by : (((one.feed ≡ []) ⊎ (one.feed ≡ 10 ∷ [])) × P) ⊎ ((one.feed ≡ []) × IsAtEnd b × Q) → (((one.feed ≡ []) ⊎ (one.feed ≡ 10 ∷ [])) × R) ⊎ ((one.feed ≡ []) × IsAtEnd b × Q)
    by (inl (fed, p)) = inl (fed, then p)
    by (inr end) = inr end

-- lines that are wanted go on after some that were read
pub record IsWithin (Wanted : List OutLine → Type 0) (front more : List OutLine) : Type 0 where
  pub after : List OutLine
  pub holds : Wanted (front ++ (more ++ after))

module _ {S : Type 0} (s : sources.Ghosts S) where
  -- a line that was read is one line
  pub looked-line : (a b : S) (d e : InputView) → ReadsLine s a b d e → ReadsOneAtMost s a b d e
  looked-line a b d e read = record {
    line = e.given;
    feed = 10 ∷ [];
    consumed = read.gives.consumed;
    one_line = read.gives.one_line;
    fits = (let fits = read.gives.fits in omega (arith, fits));
    ends = inl (inr refl, record { unread = read.on.unread; before_end = read.on.before_end; free = read.free });
  }

  needed-after : (a b c : S) (d e f : InputView) → GoesOn s a b d e → IsNeeded s b c e f → IsNeeded s a c d f
  needed-after a b c d e f one more = record {
    unread = HasNotReadAhead-trans s.last a b c d.demo.pending e.demo.pending f.demo.pending one.unread more.unread;
    before_end = more.before_end ∙ one.before_end;
    free = more.free;
  }

  -- one line at most, where these are wanted
  pub looked-none : (a c : S) (d f : InputView) (W : List OutLine → Type 0) (more : List OutLine) → W more → ReadsOneAtMost s a c d f → ReadsBeginning s W a c d f
  looked-none a c d f W more wanted one = record { front = []; more = more; wanted = wanted; left = ahead_of s d a; read = Consumes-nil (ahead_of s d a); last = one }

  -- lines, and one more at most
  pub looked-first : (a b c : S) (d e f : InputView) (W : List OutLine → Type 0) (front more : List OutLine) → ReadsLines s a b d e front → W (front ++ more) → ReadsOneAtMost s b c e f
      → ReadsBeginning s W a c d f
  looked-first a b c d e f W front more reads wanted one = record {
    front = front;
    more = more;
    wanted = wanted;
    left = ahead_of s e b;
    read = reads.consumed;
    last = at_most-weaker (ahead_of s e b) (ahead_of s f c) (IsNeeded s b c e f) (IsNeeded s a c d f) (s.ended c ≡ true) one (needed-after a b c d e f reads.on);
  }

  -- the beginning of lines that are part of others
  pub looked-within : (a c : S) (d f : InputView) (W V : List OutLine → Type 0) → ((ls : List OutLine) → W ls → IsWithin V [] ls) → ReadsBeginning s W a c d f → ReadsBeginning s V a c d f
  looked-within a c d f W V then begun =
      let in_it = then (begun.front ++ begun.more) begun.wanted in
      record {
        front = begun.front;
        more = begun.more ++ in_it.after;
        wanted = subst V (append_assoc begun.front begun.more in_it.after) in_it.holds;
        left = begun.left;
        read = begun.read;
        last = begun.last;
      }

  -- and after lines that were read
  pub looked-after : (a b c : S) (d e f : InputView) (W V : List OutLine → Type 0) (xs : List OutLine) → ReadsLines s a b d e xs → ((ls : List OutLine) → W ls → IsWithin V xs ls)
      → ReadsBeginning s W b c e f → ReadsBeginning s V a c d f
  looked-after a b c d e f W V xs reads then begun =
      let in_it = then (begun.front ++ begun.more) begun.wanted in
      let joined : xs ++ ((begun.front ++ begun.more) ++ in_it.after) ≡ (xs ++ begun.front) ++ (begun.more ++ in_it.after) =
      ap (λ ls. xs ++ ls) (append_assoc begun.front begun.more in_it.after) ∙ sym (append_assoc xs begun.front (begun.more ++ in_it.after)) in
      record {
        front = xs ++ begun.front;
        more = begun.more ++ in_it.after;
        wanted = subst V joined in_it.holds;
        left = begun.left;
        read = subst (Consumes (ahead_of s d a) begun.left) (sym (text_of-append xs begun.front))
            (Consumes-trans (ahead_of s d a) (ahead_of s e b) begun.left (text_of xs) (text_of begun.front) reads.consumed begun.read);
        last = at_most-weaker begun.left (ahead_of s f c) (IsNeeded s b c e f) (IsNeeded s a c d f) (s.ended c ≡ true) begun.last (needed-after a b c d e f reads.on);
      }

  -- the first of these lines, and one more at most
  pub some-looked : (a b c : S) (d e f : InputView) (all left : List OutLine) → ReadsSome s a b d e all left → ReadsOneAtMost s b c e f → ReadsBeginning s (λ ls. ls ≡ all) a c d f
  some-looked a b c d e f all left some one = looked-first a b c d e f (λ ls. ls ≡ all) some.front left some.reads (sym some.all_are) one
