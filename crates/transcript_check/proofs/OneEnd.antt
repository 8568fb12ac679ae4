-- An input is parted into a recording and what follows it in one way.
use Rattle.std.proofs.Common.{◌≡◌, ◌⊎◌, ℕ, true, false, List, [], ◌∷◌, ◌++◌, length, Some, refl, sym, ap, ◌∙◌, subst, inl, inr, append_assoc, append-nil}
use Rattle.std.specs.Prelude.{⊤}
use Rattle.std.specs.List.{AllByRecursion}
use Rattle.std.proofs.lemmas.List.{append_cancel_right}
use Rattle.std.proofs.lemmas.Grind.{flat_map-append}
use Rattle.edge_io.specs.Lines.{HasNoLineFeed}
use Rattle.edge_io.specs.WholeLines.{all_but_last, unlines}
use Rattle.demo_lines.specs.Known.{Reading, start_within, is_over}
use Rattle.demo_lines.specs.Recording.{next, after}
use Rattle.demo_lines.specs.Reads.{IsTextOf}
use Rattle.demo_lines.proofs.Ends.{after-over}
use Rattle.transcript_check.specs.Laws.{RecordingsEndOnce}
use Rattle.transcript_check.proofs.Texts.{same_line}

-- ---- whole lines

-- the recording goes on before the last of the lines, where there is one
abbrev GoesOn : Reading → List (List ℕ) → Type 0
GoesOn r [] = ⊤
GoesOn r (line ∷ lines) = is_over (after r (all_but_last (line ∷ lines))).stage ≡ false

-- the recording is over after the last of the lines, and not before
record EndsWith (r : Reading) (lines : List (List ℕ)) : Type 0 where
  over : is_over (after r lines).stage ≡ true
  going : GoesOn r lines

goes_on : (r : Reading) (lines : List (List ℕ)) → is_over (after r (all_but_last lines)).stage ≡ false → GoesOn r lines
goes_on r [] going = tt
goes_on r (line ∷ lines) going = going

ends-later : (r : Reading) (line : List ℕ) (lines : List (List ℕ)) → EndsWith r (line ∷ lines) → EndsWith (next r line) lines
ends-later r line [] ends = record { over = ends.over; going = tt }
ends-later r line (other ∷ lines) ends = record { over = ends.over; going = ends.going }

-- where it is over there is no line
no-line : (r : Reading) (line : List ℕ) (lines : List (List ℕ)) → is_over r.stage ≡ true → GoesOn r (line ∷ lines) → ⊥
no-line r line lines over going =
    let still : is_over (after r (all_but_last (line ∷ lines))).stage ≡ true = ap (λ (t : Reading). is_over t.stage) (after-over r (all_but_last (line ∷ lines)) over) ∙ over in
    let never : true ≡ false = sym still ∙ going in
    cc

unlines-before : (line : List ℕ) (lines : List (List ℕ)) (left : List ℕ) → unlines (line ∷ lines) ++ left ≡ line ++ 10 ∷ (unlines lines ++ left)
unlines-before line lines left = append_assoc (line ++ 10 ∷ []) (unlines lines) left ∙ append_assoc line (10 ∷ []) (unlines lines ++ left)

-- the lines are the same, and so is what follows
record IsOneCut (lines others : List (List ℕ)) (left more : List ℕ) : Type 0 where
  lines_are : lines ≡ others
  left_is : left ≡ more

one-cut : (r : Reading) (lines others : List (List ℕ)) (left more : List ℕ) → AllByRecursion HasNoLineFeed lines → AllByRecursion HasNoLineFeed others
    → unlines lines ++ left ≡ unlines others ++ more → EndsWith r lines → EndsWith r others → IsOneCut lines others left more
one-cut r [] [] left more each also same one two = record { lines_are = refl; left_is = same }
one-cut r [] (other ∷ others) left more each also same one two = absurd (no-line r other others one.over two.going)
one-cut r (line ∷ lines) [] left more each also same one two = absurd (no-line r line lines two.over one.going)
one-cut r (line ∷ lines) (other ∷ others) left more each also same one two =
    let both = sym (unlines-before line lines left) ∙ same ∙ unlines-before other others more in
    let first = same_line line other (unlines lines ++ left) (unlines others ++ more) each.0 also.0 both in
    let here : EndsWith (next r line) others = subst (λ (l : List ℕ). EndsWith (next r l) others) (sym first.line_is) (ends-later r other others two) in
    let rest = one-cut (next r line) lines others left more each.1 also.1 first.rest_is (ends-later r line lines one) here in
    record { lines_are = (λ i. first.line_is i ∷ rest.lines_are i); left_is = rest.left_is }

-- ---- the last line, with its line feed or without

-- with one line feed more the bytes are whole lines and what follows them
record IsFed (bytes : List ℕ) (lines : List (List ℕ)) (rest : List ℕ) : Type 0 where
  left : List ℕ
  is : bytes ++ 10 ∷ [] ≡ unlines lines ++ left
  rest_is : (left ≡ rest ++ 10 ∷ []) ⊎ ((left ≡ []) × (rest ≡ []))

unlines-cut : (front : List (List ℕ)) (last : List ℕ) → unlines (front ++ last ∷ []) ≡ (unlines front ++ last) ++ 10 ∷ []
unlines-cut front last =
    flat_map-append (λ (line : List ℕ). line ++ 10 ∷ []) front (last ∷ []) ∙ ap (λ t. unlines front ++ t) (append-nil (last ++ 10 ∷ [])) ∙ sym (append_assoc (unlines front) last (10 ∷ []))

fed : (bytes : List ℕ) (lines : List (List ℕ)) (text rest : List ℕ) → IsTextOf lines text (Some rest) → bytes ≡ text ++ rest → IsFed bytes lines rest
fed bytes lines text rest (inl whole) is = record {
  left = rest ++ 10 ∷ [];
  is = ap (λ t. t ++ 10 ∷ []) is ∙ append_assoc text rest (10 ∷ []) ∙ ap (λ t. t ++ (rest ++ 10 ∷ [])) whole;
  rest_is = inl refl;
}
fed bytes lines text rest (inr cut) is =
    let none : rest ≡ [] = cut.at_end in
    let all : bytes ≡ unlines cut.front ++ cut.last = is ∙ ap (λ t. text ++ t) none ∙ append-nil text ∙ cut.text_is in
    record {
      left = [];
      is = ap (λ t. t ++ 10 ∷ []) all ∙ sym (unlines-cut cut.front cut.last) ∙ ap unlines (sym cut.lines_are) ∙ sym (append-nil (unlines lines));
      rest_is = inr (refl, none);
    }

some-left : (rest : List ℕ) → rest ++ 10 ∷ [] ≡ [] → ⊥
some-left [] same = cc
some-left (b ∷ rest) same = cc

same-rest : (left rest more : List ℕ) → (left ≡ rest ++ 10 ∷ []) ⊎ ((left ≡ []) × (rest ≡ [])) → (left ≡ more ++ 10 ∷ []) ⊎ ((left ≡ []) × (more ≡ [])) → rest ≡ more
same-rest left rest more (inl one) (inl two) = append_cancel_right rest more (10 ∷ []) (sym one ∙ two)
same-rest left rest more (inl one) (inr two) = absurd (some-left rest (sym one ∙ two.0))
same-rest left rest more (inr one) (inl two) = absurd (some-left more (sym two ∙ one.0))
same-rest left rest more (inr one) (inr two) = one.1 ∙ sym two.1

-- ---- a recording's end

pub end_once : RecordingsEndOnce
end_once limit bytes line other rest more one two =
    let r = start_within limit in
    let a = fed bytes one.lines one.text rest one.spelled one.bytes_are in
    let b = fed bytes two.lines two.text more two.spelled two.bytes_are in
    let cut = one-cut r one.lines two.lines a.left b.left one.each two.each (sym a.is ∙ b.is)
    (record { over = ap is_over one.ended; going = goes_on r one.lines one.going }) (record { over = ap is_over two.ended; going = goes_on r two.lines two.going }) in
    let follows = subst (λ (l : List ℕ). (l ≡ more ++ 10 ∷ []) ⊎ ((l ≡ []) × (more ≡ []))) (sym cut.left_is) b.rest_is in
    record {
      line_is = one.number ∙ ap length cut.lines_are ∙ sym two.number;
      rest_is = same-rest a.left rest more a.rest_is follows;
    }
