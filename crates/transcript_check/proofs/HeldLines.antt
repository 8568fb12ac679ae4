-- A line that is read and held, and then taken.
use Rattle.std.proofs.Common.{◌≡◌, ◌⊎◌, inl, inr, ℕ, Bool, true, false, Option, Some, None, IfSome, List, [], ◌∷◌, ◌++◌, refl, sym, ap, ◌∙◌, subst, append_assoc}
use Rattle.std.specs.Io.KnownBytes.{Consumes, IsAtEnd}
use Rattle.std.proofs.KnownBytes.{Consumes-nil, Consumes-trans}
use Rattle.edge_io.specs.declared.source.Source as sources
use Rattle.edge_io.specs.Lines.{ahead, HasNotReadAhead}
use Rattle.demo_lines.specs.Rest.{HasRest, HasNoRestLine, GivesNextLine, GivesNoLine, FailsToGiveLine, TakesLineAtMost}
use Rattle.demo_lines.specs.Outcomes as outcomes
use Rattle.demo_lines.specs.declared.demo_stop.DemoStop.{DemoStop}
use Rattle.transcript_check.specs.Reading.{InputView, IsRestLine, text_held, without_held, count_after, ahead_of, MayRead, IsNeeded, HoldsLine, ReadsLine, ReadsLines, ReadsOneAtMost, Misses, ReadFails}
use Rattle.transcript_check.proofs.ReadingOn.{on-none, at_most-weaker}

-- what is ahead, where no line is held
pub free-ahead : (held : Bool) (line pending : List ℕ) (left : Option (List ℕ)) → held ≡ false → ahead (text_held held line ++ pending) left ≡ ahead pending left
free-ahead held line pending left free = ap (λ (h : Bool). ahead (text_held h line ++ pending) left) free

-- at the end none is
nothing-held : (held : Bool) (line pending xs : List ℕ) → (text_held held line ++ pending) ++ xs ≡ [] → pending ++ xs ≡ []
nothing-held true [] pending xs none = cc
nothing-held true (b ∷ line) pending xs none = cc
nothing-held false line pending xs none = none

pub end-free : (held : Bool) (line pending : List ℕ) (left : Option (List ℕ)) → IsAtEnd (ahead (text_held held line ++ pending) left) → IsAtEnd (ahead pending left)
end-free held line pending None end = tt
end-free held line pending (Some xs) end = nothing-held held line pending xs end

pub end-same : (held : Bool) (line pending : List ℕ) (left : Option (List ℕ)) → IsAtEnd (ahead (text_held held line ++ pending) left) → ahead (text_held held line ++ pending) left ≡ ahead pending left
end-same held line pending None end = refl
end-same held line pending (Some xs) end = ap Some (end ∙ sym (nothing-held held line pending xs end))

-- the line that is held, before the others
held-taken : (line pending : List ℕ) (left : Option (List ℕ)) → Consumes (ahead ((line ++ 10 ∷ []) ++ pending) left) (ahead pending left) (line ++ 10 ∷ [])
held-taken line pending None = tt
held-taken line pending (Some xs) = append_assoc (line ++ 10 ∷ []) pending xs

pub held-consumed : (held : Bool) (line pending : List ℕ) (left : Option (List ℕ)) → held ≡ true → Consumes (ahead (text_held held line ++ pending) left) (ahead pending left) (line ++ 10 ∷ [])
held-consumed held line pending left is =
    subst (λ (h : Bool). Consumes (ahead (text_held h line ++ pending) left) (ahead pending left) (line ++ 10 ∷ [])) (sym is) (held-taken line pending left)

-- a line was taken off what was ahead, and is held
given-held : (a : Option (List ℕ)) (line pending : List ℕ) (left : Option (List ℕ)) → Consumes a (ahead pending left) (line ++ 10 ∷ []) → Consumes a (ahead ((line ++ 10 ∷ []) ++ pending) left) []
given-held None line pending left given = tt
given-held (Some bytes) line pending None given = given
given-held (Some bytes) line pending (Some xs) given = given ∙ sym (append_assoc (line ++ 10 ∷ []) pending xs)

-- the bytes begin with this line and its line feed
pub record BeginsWithLine (line bytes : List ℕ) : Type 0 where
  pub after : List ℕ
  pub is : bytes ≡ line ++ 10 ∷ after

module _ {S : Type 0} (s : sources.Ghosts S) where
  -- the line was held before
  pub holds-still : (a : S) (d : InputView) → MayRead s d a → d.held ≡ true → IsRestLine d.given → HoldsLine s a a d d
  holds-still a d may held line = record {
    is = held;
    same = Consumes-nil (ahead_of s d a);
    line = line;
    on = on-none s a d may;
    count_is = refl;
  }

  module _ (a b : S) (d e : InputView) (free : d.held ≡ false) (may : MayRead s d a) where
    ahead_is : ahead_of s d a ≡ outcomes.ahead_of s d.demo a
    ahead_is = free-ahead d.held d.given d.demo.pending (s.left a) free

    has_rest : HasRest d.demo (outcomes.ahead_of s d.demo a)
    has_rest = subst (HasRest d.demo) ahead_is may.rest

    -- one was given
    pub holds-given : e.held ≡ true → e.count ≡ d.count → e.demo.reading ≡ d.demo.reading → (s.never_fails a → s.never_fails b) → GivesNextLine s d.demo e.demo a b e.given → HoldsLine s a b d e
    holds-given held count reading keeps given = record {
      is = held;
      same = subst (λ (o : Option (List ℕ)). Consumes o (ahead_of s e b) []) (sym ahead_is)
          (subst (λ (h : Bool). Consumes (outcomes.ahead_of s d.demo a) (ahead (text_held h e.given ++ e.demo.pending) (s.left b)) []) (sym held)
          (given-held (outcomes.ahead_of s d.demo a) e.given e.demo.pending (s.left b) given.line.consumed));
      line = record { one_line = given.line.one_line; fits = given.line.fits };
      on = record {
        may = record {
          over = ap (λ r. r.stage) reading ∙ may.over;
          rest = record { no_stop = given.ok; at_end = λ cut. absurd (let c : true ≡ false = sym cut ∙ given.cut in cc) };
        };
        same = reading;
        cut = given.cut ∙ sym given.before_end.0;
        unread = given.needed;
        before_end = given.before_end.1;
        uncounted = given.uncounted;
        keeps = keeps;
      };
      count_is = count;
    }

    -- none was
    pub misses-given : GivesNoLine s d.demo e.demo a b → Misses s a b d HasNoRestLine
    misses-given given = record {
      missed = subst (λ (o : Option (List ℕ)). IfSome o HasNoRestLine) (sym ahead_is) (given.none has_rest);
      uncounted = given.uncounted;
    }

    pub looked-given : e.held ≡ false → GivesNoLine s d.demo e.demo a b → ReadsOneAtMost s a b d e
    looked-given held given =
        let there : ahead_of s e b ≡ outcomes.ahead_of s e.demo b = free-ahead e.held e.given e.demo.pending (s.left b) held in
        subst (λ (o : Option (List ℕ)). TakesLineAtMost o (ahead_of s e b) (IsNeeded s a b d e) (s.ended b ≡ true)) (sym ahead_is)
        (subst (λ (o : Option (List ℕ)). TakesLineAtMost (outcomes.ahead_of s d.demo a) o (IsNeeded s a b d e) (s.ended b ≡ true)) (sym there)
        (at_most-weaker (outcomes.ahead_of s d.demo a) (outcomes.ahead_of s e.demo b) (outcomes.IsNeeded s d.demo e.demo a b) (IsNeeded s a b d e) (s.ended b ≡ true) given.taken
        (λ needed. record { unread = needed.0; before_end = needed.1; free = held })))

    pub fails-given : (stop : DemoStop) → FailsToGiveLine s d.demo e.demo a b stop → ReadFails s a b d stop
    fails-given stop given = record {
      is = given.read_fault may.rest.no_stop;
      not_cut = (given.no_end may.rest.no_stop).0;
      before_end = (given.no_end may.rest.no_stop).1;
      fault = given.fault may.rest.no_stop;
      later = given.later;
      fails = given.sure may.rest.no_stop;
    }

  -- the line that is held was taken
  pub accepted : (a b : S) (d e : InputView) → HoldsLine s a b d e → ReadsLine s a b d (without_held e)
  accepted a b d e holds = record {
    gives = record {
      consumed = Consumes-trans (ahead_of s d a) (ahead_of s e b) (ahead_of s (without_held e) b) [] (e.given ++ 10 ∷ []) holds.same
          (held-consumed e.held e.given e.demo.pending (s.left b) holds.is);
      one_line = holds.line.one_line;
      fits = holds.line.fits;
    };
    on = record {
      may = record {
        over = holds.on.may.over;
        rest = record { no_stop = holds.on.may.rest.no_stop; at_end = λ cut. end-free e.held e.given e.demo.pending (s.left b) (holds.on.may.rest.at_end cut) };
      };
      same = holds.on.same;
      cut = holds.on.cut;
      unread = holds.on.unread;
      before_end = holds.on.before_end;
      uncounted = holds.on.uncounted;
      keeps = holds.on.keeps;
    };
    free = refl;
    count_is = ap (λ n. count_after n 1) holds.count_is;
  }

  -- no line was taken
  pub held-none : (a b : S) (d e : InputView) → HoldsLine s a b d e → ReadsLines s a b d e []
  held-none a b d e holds = record { consumed = holds.same; on = holds.on; count_is = holds.count_is }

  -- what is ahead begins with it
  pub held-begins : (a b : S) (d e : InputView) → HoldsLine s a b d e → IfSome (ahead_of s e b) (BeginsWithLine e.given)
  held-begins a b d e holds = by (s.left b)
    where
      there : (left : Option (List ℕ)) → IfSome (ahead ((e.given ++ 10 ∷ []) ++ e.demo.pending) left) (BeginsWithLine e.given)
      there None = tt
      there (Some xs) = record {
        after = e.demo.pending ++ xs;
        is = append_assoc (e.given ++ 10 ∷ []) e.demo.pending xs ∙ append_assoc e.given (10 ∷ []) (e.demo.pending ++ xs);
      }

      by : (left : Option (List ℕ)) → IfSome (ahead (text_held e.held e.given ++ e.demo.pending) left) (BeginsWithLine e.given)
      by left = subst (λ (h : Bool). IfSome (ahead (text_held h e.given ++ e.demo.pending) left) (BeginsWithLine e.given)) (sym holds.is) (there left)

  -- what was read, as of the reader alone
  pub last-free : (l : Option (List ℕ)) (a b : S) (d e : InputView) (Q : Type 0) → TakesLineAtMost l (ahead_of s e b) (IsNeeded s a b d e) Q
      → TakesLineAtMost l (ahead e.demo.pending (s.left b)) (HasNotReadAhead a b (s.last b) d.demo.pending e.demo.pending × (s.ended b ≡ s.ended a)) Q
  last-free l a b d e Q one = by one.ends
    where
      by : (((one.feed ≡ []) ⊎ (one.feed ≡ 10 ∷ [])) × IsNeeded s a b d e) ⊎ ((one.feed ≡ []) × IsAtEnd (ahead_of s e b) × Q)
          → TakesLineAtMost l (ahead e.demo.pending (s.left b)) (HasNotReadAhead a b (s.last b) d.demo.pending e.demo.pending × (s.ended b ≡ s.ended a)) Q
      by (inl (feed, needed)) = record {
        line = one.line;
        feed = one.feed;
        consumed = subst (λ (o : Option (List ℕ)). Consumes l o (one.line ++ one.feed)) (free-ahead e.held e.given e.demo.pending (s.left b) needed.free) one.consumed;
        one_line = one.one_line;
        fits = one.fits;
        ends = inl (feed, (needed.unread, needed.before_end));
      }
      by (inr (feed, end, q)) = record {
        line = one.line;
        feed = one.feed;
        consumed = subst (λ (o : Option (List ℕ)). Consumes l o (one.line ++ one.feed)) (end-same e.held e.given e.demo.pending (s.left b) end) one.consumed;
        one_line = one.one_line;
        fits = one.fits;
        ends = inr (feed, end-free e.held e.given e.demo.pending (s.left b) end, q);
      }
