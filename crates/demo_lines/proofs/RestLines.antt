-- Parts of a line that follows a recording, read one after another.
use Rattle.std.proofs.Common.{◌≡◌, inl, inr, ℕ, ◌≤◌, ◌<◌, ◌==◌, Bool, true, false, List, [], ◌∷◌, ◌++◌, length, Option, Some, None, IfSome, refl, sym, ap, ◌∙◌, subst, append_assoc, append-nil, length-append, arith}
use Rattle.std.specs.Io.KnownBytes.{Consumes, IsAtEnd, prepend_known}
use Rattle.std.proofs.KnownBytes.{Consumes-nil, Consumes-trans}
use Rattle.std.proofs.lemmas.List.Elements.{All-nil, All-append, All-head, All-tail}
use Rattle.edge_io.specs.Lines.{HasNoLineFeed, HasNotReadAhead, GivesLine, GivesLongFront, GivesLastPart, OnLine, OnWhole, OnLong, OnEnded}
use Rattle.edge_io.proofs.ReadingAhead.{HasNotReadAhead-trans}
use Rattle.edge_io.specs.declared.line_reader.NextLine.{NextLine}
use Rattle.edge_io.specs.declared.line_reader.NextLine.TheVariants.{Whole, Long, Ended}
use Rattle.demo_lines.specs.declared.rest.TheConstants.{LONGEST_REST}
use Rattle.demo_lines.specs.Rest.{HasNoRestLine, TakesLineAtMost}

-- the front of a line was taken off what was ahead
pub record TakesFront (old new : Option (List ℕ)) (front : List ℕ) : Type 0 where
  pub consumed : Consumes old new front
  pub one_line : HasNoLineFeed front

both_without : (xs ys : List ℕ) → HasNoLineFeed xs → HasNoLineFeed ys → HasNoLineFeed (xs ++ ys)
both_without xs ys one more = All-append (λ b. (b == 10) ≡ false) xs ys one more

-- one part more
pub longer_front : (a b c : Option (List ℕ)) (front part : List ℕ) → TakesFront a b front → Consumes b c part → HasNoLineFeed part → TakesFront a c (front ++ part)
longer_front a b c front part is consumed one_line = record {
  consumed = Consumes-trans a b c front part is.consumed consumed;
  one_line = both_without front part is.one_line one_line;
}

-- a line is as long as each front of it without a line feed
front_within : (front rest line after : List ℕ) → HasNoLineFeed front → front ++ rest ≡ line ++ 10 ∷ after → length front ≤ length line
front_within [] rest line after one_line is = omega arith
front_within (b ∷ front) rest [] after one_line is =
    let first : b ≡ 10 = cc in
    let none : (b == 10) ≡ false = All-head (λ x. (x == 10) ≡ false) b front one_line in
    let never : true ≡ false = subst (λ x. (x == 10) ≡ false) first none in
    cc
front_within (b ∷ front) rest (x ∷ line) after one_line is =
    let more : front ++ rest ≡ line ++ 10 ∷ after = cc in
    let shorter = front_within front rest line after (All-tail (λ y. (y == 10) ≡ false) b front one_line) more in
    omega (arith, shorter)

-- the line is too long
pub too_long : (a b : Option (List ℕ)) (front : List ℕ) → TakesFront a b front → LONGEST_REST < length front → IfSome a HasNoRestLine
too_long None b front is long = tt
too_long (Some bytes) None front is long = absurd is.consumed
too_long (Some bytes) (Some left) front is long = λ line after one_line fits same.
    let within = front_within front left line after is.one_line (sym is.consumed ∙ same) in
    let never : LONGEST_REST < LONGEST_REST = omega (arith, long, fits, within) in
    absurd (omega (arith, never))

longer-than : (line after : List ℕ) → length line < length (line ++ 10 ∷ after)
longer-than line after = omega (arith, length-append line (10 ∷ after))

-- what is ahead has no line feed
pub no_line_feed : (a b : Option (List ℕ)) (front : List ℕ) → TakesFront a b front → IsAtEnd b → IfSome a HasNoRestLine
no_line_feed None b front is end = tt
no_line_feed (Some bytes) None front is end = absurd is.consumed
no_line_feed (Some bytes) (Some left) front is end = λ line after one_line fits same.
    let all : front ++ [] ≡ line ++ 10 ∷ after = ap (λ x. front ++ x) (sym end) ∙ sym is.consumed ∙ same in
    let within = front_within front [] line after is.one_line all in
    let whole : length (front ++ []) ≡ length (line ++ 10 ∷ after) = ap length all in
    let never : length line < length line = omega (arith, whole, length-append front [], longer-than line after, within) in
    absurd (omega (arith, never))

-- a part of a line was taken off what was ahead, and maybe a line feed after it
pub record TakesPart (old : Option (List ℕ)) (part : List ℕ) : Type 0 where
  pub left : Option (List ℕ)
  pub consumed : Consumes old left part
  pub one_line : HasNoLineFeed part

before_feed : (a b : Option (List ℕ)) (part : List ℕ) → Consumes a b (part ++ 10 ∷ []) → Consumes a (prepend_known (10 ∷ []) b) part
before_feed None b part is = tt
before_feed (Some bytes) None part is = absurd is
before_feed (Some bytes) (Some left) part is = is ∙ append_assoc part (10 ∷ []) left

-- whatever was given, a part of a line was taken
pub part_taken : (next : NextLine) (a b : Option (List ℕ)) (part pending : List ℕ) → OnWhole next (GivesLine a b part) → OnLong next (GivesLongFront a b part)
    → OnEnded next (GivesLastPart a b part pending) → TakesPart a part
part_taken Whole a b part pending whole long ended = record { left = prepend_known (10 ∷ []) b; consumed = before_feed a b part whole.consumed; one_line = whole.one_line }
part_taken Long a b part pending whole long ended = record { left = b; consumed = long.consumed; one_line = long.one_line }
part_taken Ended a b part pending whole long ended = record { left = b; consumed = ended.front.consumed; one_line = ended.front.one_line }

-- with the part the line is too long
pub part_too_long : (a b : Option (List ℕ)) (front part : List ℕ) → TakesFront a b front → TakesPart b part → LONGEST_REST < length (front ++ part) → IfSome a HasNoRestLine
part_too_long a b front part is takes long =
    too_long a takes.left (front ++ part) (longer_front a b takes.left front part is takes.consumed takes.one_line) long

-- whatever was given after the front of a line, one line at most was taken, and no more was read than that needed
module _ {S : Type 0} (last : S → ℕ) (ended : S → Bool) (first before after : S) (xs ys zs : List ℕ) (unread : HasNotReadAhead first before (last before) xs ys) (same : ended before ≡ ended first) where
  pub at_most : (next : NextLine) (a b c : Option (List ℕ)) (front part : List ℕ) → TakesFront a b front → length front ≤ LONGEST_REST → OnWhole next (GivesLine b c part)
      → OnLong next (GivesLongFront b c part) → OnEnded next (GivesLastPart b c part zs) → OnLine next (HasNotReadAhead before after (last after) ys zs)
      → OnLine next (ended after ≡ ended before) → OnEnded next (ended after ≡ true)
      → TakesLineAtMost a c (HasNotReadAhead first after (last after) xs zs × (ended after ≡ ended first)) (ended after ≡ true)
  at_most Whole a b c front part is short whole long gone needed going told = record {
    line = front ++ part;
    feed = 10 ∷ [];
    consumed = subst (Consumes a c) (sym (append_assoc front part (10 ∷ []))) (Consumes-trans a b c front (part ++ 10 ∷ []) is.consumed whole.consumed);
    one_line = both_without front part is.one_line whole.one_line;
    fits = (let both = length-append front part in let fits = whole.fits in omega (arith, both, fits, short));
    ends = inl (inr refl, (HasNotReadAhead-trans last first before after xs ys zs unread needed, going ∙ same));
  }
  at_most Long a b c front part is short whole long gone needed going told = record {
    line = front ++ part;
    feed = [];
    consumed = subst (Consumes a c) (sym (append-nil (front ++ part))) (Consumes-trans a b c front part is.consumed long.consumed);
    one_line = both_without front part is.one_line long.one_line;
    fits = (let both = length-append front part in let fits = long.long in omega (arith, both, fits, short));
    ends = inl (inl refl, (HasNotReadAhead-trans last first before after xs ys zs unread needed, going ∙ same));
  }
  at_most Ended a b c front part is short whole long gone needed going told = record {
    line = front ++ part;
    feed = [];
    consumed = subst (Consumes a c) (sym (append-nil (front ++ part))) (Consumes-trans a b c front part is.consumed gone.front.consumed);
    one_line = both_without front part is.one_line gone.front.one_line;
    fits = (let both = length-append front part in let fits = gone.front.fits in omega (arith, both, fits, short));
    ends = inr (refl, gone.at_end, told);
  }

-- where nothing was taken
pub none_taken : (a : Option (List ℕ)) (P Q : Type 0) → P → TakesLineAtMost a a P Q
none_taken a P Q p = record { line = []; feed = []; consumed = Consumes-nil a; one_line = All-nil (λ b. (b == 10) ≡ false); fits = omega arith; ends = inl (inl refl, p) }

-- and where nothing is ahead
pub none_at_end : (a : Option (List ℕ)) → IsAtEnd a → IfSome a HasNoRestLine
none_at_end a end = no_line_feed a a [] (record { consumed = Consumes-nil a; one_line = All-nil (λ b. (b == 10) ≡ false) }) end
