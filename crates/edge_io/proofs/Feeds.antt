-- Bytes that are split into lines at their line feeds.
use Rattle.std.proofs.Common.{◌≡◌, ℕ, Bool, true, false, List, [], ◌∷◌, ◌++◌, refl, sym, ap, ◌∙◌, append_assoc, append-nil, cond}
use Rattle.std.specs.List.{slice_split, onto_first, AllByRecursion}
use Rattle.std.proofs.lemmas.List.Splits.{slice_split_none, slice_split_at}
use Rattle.std.proofs.lemmas.Grind.{flat_map-append}
use Rattle.edge_io.specs.Lines.{HasNoLineFeed}
use Rattle.edge_io.specs.WholeLines.{is_line_feed, all_but_last, whole_lines, unlines}

-- a list that has a first element
pub record BeginsWith {X : Type 0} (xs : List X) : Type 0 where
  pub first : X
  pub rest : List X
  pub is : xs ≡ first ∷ rest

begins-onto_first : (b : Bool) (x : ℕ) (parts : List (List ℕ)) → BeginsWith parts → BeginsWith (cond b ([] ∷ parts) (onto_first x parts))
begins-onto_first true x parts begins = record { first = []; rest = parts; is = refl }
begins-onto_first false x parts begins = record { first = x ∷ begins.first; rest = begins.rest; is = ap (onto_first x) begins.is }

-- there is always a first part
pub parts_begin : (bytes : List ℕ) → BeginsWith (slice_split is_line_feed bytes)
parts_begin [] = record { first = []; rest = []; is = refl }
parts_begin (b ∷ bytes) = begins-onto_first (is_line_feed b) b (slice_split is_line_feed bytes) (parts_begin bytes)

all_but_last-cons : {X : Type 0} (x : X) (xs : List X) → BeginsWith xs → all_but_last (x ∷ xs) ≡ x ∷ all_but_last xs
all_but_last-cons x xs begins = ap (λ ys. all_but_last (x ∷ ys)) begins.is ∙ ap (λ ys. x ∷ all_but_last ys) (sym begins.is)

-- all but the last of a list and one more element are that list
pub all_but_last-push : {X : Type 0} (xs : List X) (x : X) → all_but_last (xs ++ x ∷ []) ≡ xs
all_but_last-push [] x = refl
all_but_last-push (y ∷ []) x = refl
all_but_last-push (y ∷ z ∷ xs) x = ap (λ ys. y ∷ ys) (all_but_last-push (z ∷ xs) x)

pub all_but_last-append : {X : Type 0} (xs : List X) (y : X) (ys : List X) → all_but_last (xs ++ y ∷ ys) ≡ xs ++ all_but_last (y ∷ ys)
all_but_last-append [] y ys = refl
all_but_last-append (x ∷ []) y ys = refl
all_but_last-append (x ∷ z ∷ xs) y ys = ap (λ zs. x ∷ zs) (all_but_last-append (z ∷ xs) y ys)

-- a line and its line feed are the first whole line
pub whole_lines-line : (line rest : List ℕ) → HasNoLineFeed line → whole_lines (line ++ 10 ∷ rest) ≡ line ∷ whole_lines rest
whole_lines-line line rest none =
    ap all_but_last (slice_split_at is_line_feed line 10 rest none refl) ∙ all_but_last-cons line (slice_split is_line_feed rest) (parts_begin rest)

-- lines and their line feeds are the first whole lines
pub whole_lines-unlines : (lines : List (List ℕ)) (rest : List ℕ) → AllByRecursion HasNoLineFeed lines → whole_lines (unlines lines ++ rest) ≡ lines ++ whole_lines rest
whole_lines-unlines [] rest none = refl
whole_lines-unlines (line ∷ lines) rest none =
    ap whole_lines (append_assoc (line ++ 10 ∷ []) (unlines lines) rest ∙ append_assoc line (10 ∷ []) (unlines lines ++ rest))
    ∙ whole_lines-line line (unlines lines ++ rest) none.0
    ∙ ap (λ ls. line ∷ ls) (whole_lines-unlines lines rest none.1)

-- where there is no line feed there is no whole line
pub whole_lines-none : (part : List ℕ) → HasNoLineFeed part → whole_lines part ≡ []
whole_lines-none part none = ap all_but_last (slice_split_none is_line_feed part none)

-- one more line
pub unlines-push : (lines : List (List ℕ)) (line : List ℕ) → unlines (lines ++ line ∷ []) ≡ unlines lines ++ (line ++ 10 ∷ [])
unlines-push lines line = flat_map-append (λ l. l ++ 10 ∷ []) lines (line ∷ []) ∙ ap (λ bytes. unlines lines ++ bytes) (append-nil (line ++ 10 ∷ []))

pub AllByRecursion-push : {X : Type 0} (P : X → Type 0) (xs : List X) (x : X) → AllByRecursion P xs → P x → AllByRecursion P (xs ++ x ∷ [])
AllByRecursion-push P [] x all last = (last, tt)
AllByRecursion-push P (y ∷ ys) x all last = (all.0, AllByRecursion-push P ys x all.1 last)

pub each_of_both : {X : Type 0} (P : X → Type 0) (xs ys : List X) → AllByRecursion P xs → AllByRecursion P ys → AllByRecursion P (xs ++ ys)
each_of_both P [] ys p q = q
each_of_both P (x ∷ xs) ys p q = (p.0, each_of_both P xs ys p.1 q)
