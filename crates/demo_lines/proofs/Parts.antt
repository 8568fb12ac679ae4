-- The lines of bytes, and what no line feed ends after them.
use Rattle.std.proofs.Common.{◌≡◌, ℕ, suc, ◌+◌, ◌-◌, ◌≤◌, ◌<◌, Bool, true, false, List, [], ◌∷◌, ◌++◌, ◌⊎◌, inl, inr, length, take, cond, codes, bytes_eq, refl, sym, ap, ◌∙◌, arith, append_assoc, length-take}
use Rattle.std.specs.List.{slice_split, onto_first, AllByRecursion}
use Rattle.std.proofs.lemmas.List.Splits.{slice_split_none, slice_split_at, slice_split-cons_no}
use Rattle.std.proofs.lemmas.List.Elements.{recursion_from_All}
use Rattle.std.proofs.lemmas.Bool.{and_parts}
use Rattle.edge_io.specs.Lines.{HasNoLineFeed}
use Rattle.edge_io.specs.WholeLines.{is_line_feed, all_but_last, whole_lines, unlines}
use Rattle.edge_io.proofs.Feeds.{BeginsWith, parts_begin, whole_lines-unlines, whole_lines-none}
use Rattle.demo_lines.specs.Lines.{text_of, ends_in_return, is_end}
use Rattle.demo_lines.specs.Bytes.{last_of, last_part, cut_end, lines_of}

last_of-cons : (x : List ℕ) (xs : List (List ℕ)) → BeginsWith xs → last_of (x ∷ xs) ≡ last_of xs
last_of-cons x xs begins = ap (λ ys. last_of (x ∷ ys)) begins.is ∙ ap last_of (sym begins.is)

last_part-line : (line rest : List ℕ) → HasNoLineFeed line → last_part (line ++ 10 ∷ rest) ≡ last_part rest
last_part-line line rest none =
    ap last_of (slice_split_at is_line_feed line 10 rest none refl) ∙ last_of-cons line (slice_split is_line_feed rest) (parts_begin rest)

pub last_part-unlines : (lines : List (List ℕ)) (rest : List ℕ) → AllByRecursion HasNoLineFeed lines → last_part (unlines lines ++ rest) ≡ last_part rest
last_part-unlines [] rest none = refl
last_part-unlines (line ∷ lines) rest none =
    ap last_part (append_assoc (line ++ 10 ∷ []) (unlines lines) rest ∙ append_assoc line (10 ∷ []) (unlines lines ++ rest))
    ∙ last_part-line line (unlines lines ++ rest) none.0
    ∙ last_part-unlines lines rest none.1

pub last_part-none : (part : List ℕ) → HasNoLineFeed part → last_part part ≡ part
last_part-none part none = ap last_of (slice_split_none is_line_feed part none)

-- lines and their line feeds come before the lines of the rest
pub lines_of-unlines : (lines : List (List ℕ)) (rest : List ℕ) → AllByRecursion HasNoLineFeed lines → lines_of (unlines lines ++ rest) ≡ lines ++ lines_of rest
lines_of-unlines lines rest none =
    ap (λ ls. ls ++ cut_end (last_part (unlines lines ++ rest))) (whole_lines-unlines lines rest none)
    ∙ ap (λ part. (lines ++ whole_lines rest) ++ cut_end part) (last_part-unlines lines rest none)
    ∙ append_assoc lines (whole_lines rest) (cut_end (last_part rest))

pub lines_of-none : (part : List ℕ) → HasNoLineFeed part → lines_of part ≡ cut_end part
lines_of-none part none = ap (λ ls. ls ++ cut_end (last_part part)) (whole_lines-none part none) ∙ ap cut_end (last_part-none part none)

-- ---- the end

bytes_eq-length : (xs ys : List ℕ) → bytes_eq xs ys ≡ true → length xs ≡ length ys
bytes_eq-length [] [] h = refl
bytes_eq-length [] (y ∷ ys) h = cc
bytes_eq-length (x ∷ xs) [] h = cc
bytes_eq-length (x ∷ xs) (y ∷ ys) h = ap suc (bytes_eq-length xs ys (and_parts _ _ h).1)

text_of-length : (b : Bool) (raw : List ℕ) → length raw ≤ length (cond b (take (length raw - 1) raw) raw) + 1
text_of-length true raw = omega (arith, length-take (length raw - 1) raw)
text_of-length false raw = omega arith

-- an end is short
pub end_is_short : (raw : List ℕ) → is_end raw ≡ true → length raw ≤ 5
end_is_short raw h =
    let three : length (text_of raw) ≡ 3 = bytes_eq-length (text_of raw) (codes "end") h in
    omega (arith, three, text_of-length (ends_in_return raw) raw)

pub long_is_no_end : (raw : List ℕ) → 512 < length raw → is_end raw ≡ false
long_is_no_end raw long = by (is_end raw) refl
  where
    by : (b : Bool) → is_end raw ≡ b → is_end raw ≡ false
    by true h = absurd (omega (arith, end_is_short raw h))
    by false h = h

-- ---- the front of a line

parts-front : (part bytes : List ℕ) (first : List ℕ) (rest : List (List ℕ)) → AllByRecursion (λ b. is_line_feed b ≡ false) part
    → slice_split is_line_feed bytes ≡ first ∷ rest → slice_split is_line_feed (part ++ bytes) ≡ (part ++ first) ∷ rest
parts-front [] bytes first rest none is = is
parts-front (b ∷ part) bytes first rest none is =
    slice_split-cons_no is_line_feed b (part ++ bytes) none.0 ∙ ap (onto_first b) (parts-front part bytes first rest none.1 is)

-- the lines begin with one that begins so, or there is no whole line and the last part begins so
pub record BeginsLine (front bytes : List ℕ) : Type 0 where
  pub more : List ℕ
  pub rest : List (List ℕ)
  pub is : whole_lines bytes ≡ (front ++ more) ∷ rest

pub record BeginsPart (front bytes : List ℕ) : Type 0 where
  pub more : List ℕ
  pub none : whole_lines bytes ≡ []
  pub is : last_part bytes ≡ front ++ more

front-by : (front bytes first : List ℕ) (rest : List (List ℕ)) → slice_split is_line_feed bytes ≡ (front ++ first) ∷ rest → BeginsLine front bytes ⊎ BeginsPart front bytes
front-by front bytes first [] is = inr (record { more = first; none = ap all_but_last is; is = ap last_of is })
front-by front bytes first (part ∷ rest) is = inl (record { more = first; rest = all_but_last (part ∷ rest); is = ap all_but_last is })

pub front-parts : (front bytes : List ℕ) → HasNoLineFeed front → BeginsLine front (front ++ bytes) ⊎ BeginsPart front (front ++ bytes)
front-parts front bytes none =
    let begins = parts_begin bytes in
    front-by front (front ++ bytes) begins.first begins.rest
    (parts-front front bytes begins.first begins.rest (recursion_from_All (λ b. is_line_feed b ≡ false) front none) begins.is)
