-- What a text that is read as no line is.
use Rattle.std.proofs.Common.{◌≡◌, ◌≢◌, ◌↔◌, ℕ, Bool, true, false, cond, List, Option, Some, None, Result, Ok, Err, ok_or, IfOk, refl, sym, ap, ◌∙◌, inl, inr, arith}
use Rattle.std.proofs.lemmas.Bool.{cases_Bool}
use Rattle.std.proofs.lemmas.Option.{none-some, same_Some}
use Rattle.edge_io.specs.Fields.{cut}
use Rattle.arena_map.specs.declared.map_line.MapLine.{MapLine}
use Rattle.arena_map.specs.declared.map_word.MapWord.{MapWord}
use Rattle.arena_map.specs.MapLines.{IsWithinLimits}
use Rattle.arena_map.specs.Words.{word_text, map_word, fields_of}
use Rattle.arena_map.specs.Reading.{has_fields, line_within, line_of_word, line_of_first, map_line_of}
use Rattle.arena_map.specs.Spelling.{map_line_text}
use Rattle.arena_map.specs.TextFaults.{HasNoWord, HasNoForm, HasForm, IsOutOfLimit}
use Rattle.arena_map.proofs.FieldForms.{fields_are_spaced}
use Rattle.arena_map.proofs.LinesSound.{word-spelled, line-sound}
use Rattle.arena_map.proofs.LinesBack.{map_word-back, line-back}

-- a line that is read
pub found-line : (text : List ℕ) (r : Result MapLine ℕ) → r ≡ map_line_of text → IfOk r (λ line. text ≡ map_line_text line)
found-line text (Ok line) is = (line-sound text line (sym is)).0
found-line text (Err fault) is = tt

pub only-line : (text : List ℕ) (r : Result MapLine ℕ) → r ≡ map_line_of text → (line : MapLine) → IsWithinLimits line → text ≡ map_line_text line → r ≡ Ok line
only-line text r is line limits text_is = is ∙ ap map_line_of text_is ∙ line-back line limits

-- ---- the answer, by the three tests

-- what the tests give, and what a text with them is
data Answer (text : List ℕ) : Type 0 where
  no_word : map_word (cut text).0 ≡ None → map_line_of text ≡ Err 3 → Answer text
  no_form : (word : MapWord) → map_word (cut text).0 ≡ Some word → has_fields (fields_of word) (cut text).1 ≡ false → map_line_of text ≡ Err 4 → Answer text
  no_value : (word : MapWord) → map_word (cut text).0 ≡ Some word → has_fields (fields_of word) (cut text).1 ≡ true → map_line_of text ≡ Err 6 → Answer text
  line : (word : MapWord) → map_word (cut text).0 ≡ Some word → has_fields (fields_of word) (cut text).1 ≡ true → (l : MapLine) → map_line_of text ≡ Ok l → Answer text

answer : (text : List ℕ) → Answer text
answer text = by_word (map_word (cut text).0) refl
  where
    by_value : (word : MapWord) → map_word (cut text).0 ≡ Some word → has_fields (fields_of word) (cut text).1 ≡ true
        → map_line_of text ≡ ok_or (line_within word (cut text).1) 6 → (o : Option MapLine) → line_within word (cut text).1 ≡ o → Answer text
    by_value word is form answers None value = no_value word is form (answers ∙ ap (λ o. ok_or o 6) value)
    by_value word is form answers (Some l) value = line word is form l (answers ∙ ap (λ o. ok_or o 6) value)

    by_form : (word : MapWord) → map_word (cut text).0 ≡ Some word → map_line_of text ≡ line_of_word word (cut text).1 → (b : Bool) → has_fields (fields_of word) (cut text).1 ≡ b
        → Answer text
    by_form word is answers false form = no_form word is form (answers ∙ ap (λ b. cond b (ok_or (line_within word (cut text).1) 6) (Err 4)) form)
    by_form word is answers true form =
        by_value word is form (answers ∙ ap (λ b. cond b (ok_or (line_within word (cut text).1) 6) (Err 4)) form) (line_within word (cut text).1) refl

    by_word : (o : Option MapWord) → map_word (cut text).0 ≡ o → Answer text
    by_word None is = no_word is (ap (λ o. line_of_first o (cut text).1) is)
    by_word (Some word) is = by_form word is (ap (λ o. line_of_first o (cut text).1) is) (has_fields (fields_of word) (cut text).1) refl

-- the number of a fault
abbrev fault_in : Result MapLine ℕ → ℕ
fault_in (Ok l) = 0
fault_in (Err fault) = fault

-- a text has one answer
two_answers : (text : List ℕ) (a b : Result MapLine ℕ) → fault_in a ≢ fault_in b → map_line_of text ≡ a → map_line_of text ≡ b → ⊥
two_answers text a b apart one other = apart (ap fault_in (sym one ∙ other))

-- the first word of the text is a word of a map, and whether it has the fields that the word wants
record HasWord (text : List ℕ) (form : Bool) : Type 0 where
  word : MapWord
  first : (cut text).0 ≡ word_text word
  fields : has_fields (fields_of word) (cut text).1 ≡ form

has_form : (text : List ℕ) → HasForm text → HasWord text true
has_form text h = record { word = h.word; first = h.first; fields = (fields_are_spaced (fields_of h.word) (cut text).1).1 h.fields }

has_no_form : (text : List ℕ) → HasNoForm text → HasWord text false
has_no_form text h = record {
  word = h.word;
  first = h.first;
  fields = elim (cases_Bool (has_fields (fields_of h.word) (cut text).1)) [
    | inl form ↦ absurd (h.no_fields ((fields_are_spaced (fields_of h.word) (cut text).1).0 form))
    | inr none ↦ none
  ];
}

-- a text with a word has it as its first word
has_word : (text : List ℕ) (form : Bool) (h : HasWord text form) → map_word (cut text).0 ≡ Some h.word
has_word text form h = ap map_word h.first ∙ map_word-back h.word

-- which has one form
one_form : (text : List ℕ) (form : Bool) (h : HasWord text form) (word : MapWord) → map_word (cut text).0 ≡ Some word → has_fields (fields_of word) (cut text).1 ≡ form
one_form text form h word is =
    let same : h.word ≡ word = same_Some h.word word (sym (has_word text form h) ∙ is) in
    sym (ap (λ (w : MapWord). has_fields (fields_of w) (cut text).1) same) ∙ h.fields

-- ---- the causes

no-word : (text : List ℕ) → Answer text → (map_line_of text ≡ Err 3) ↔ HasNoWord text
no-word text (no_word none is) = ((λ h word first. let some = ap map_word first ∙ map_word-back word in cc), λ h. is)
no-word text (no_form word first form is) =
    ((λ h. absurd (two_answers text (Err 4) (Err 3) (λ e. omega (arith, e)) is h)), λ h. absurd (h word (word-spelled (cut text).0 word first)))
no-word text (no_value word first form is) =
    ((λ h. absurd (two_answers text (Err 6) (Err 3) (λ e. omega (arith, e)) is h)), λ h. absurd (h word (word-spelled (cut text).0 word first)))
no-word text (line word first form l is) =
    ((λ h. absurd (two_answers text (Ok l) (Err 3) (λ e. omega (arith, e)) is h)), λ h. absurd (h word (word-spelled (cut text).0 word first)))

no-form : (text : List ℕ) → Answer text → (map_line_of text ≡ Err 4) ↔ HasNoForm text
no-form text (no_word none is) =
    ((λ h. absurd (two_answers text (Err 3) (Err 4) (λ e. omega (arith, e)) is h)), λ h. absurd (none-some (has_no_form text h).word (sym none ∙ has_word text false (has_no_form text h))))
no-form text (no_form word first form is) = (
  (λ h. record {
    word = word;
    first = word-spelled (cut text).0 word first;
    no_fields = λ is. let has = (fields_are_spaced (fields_of word) (cut text).1).1 is in cc;
  }),
  λ h. is,
)
no-form text (no_value word first form is) =
    ((λ h. absurd (two_answers text (Err 6) (Err 4) (λ e. omega (arith, e)) is h)), λ h. let other = one_form text false (has_no_form text h) word first in cc)
no-form text (line word first form l is) =
    ((λ h. absurd (two_answers text (Ok l) (Err 4) (λ e. omega (arith, e)) is h)), λ h. let other = one_form text false (has_no_form text h) word first in cc)

out-of-limit : (text : List ℕ) → Answer text → (map_line_of text ≡ Err 6) ↔ IsOutOfLimit text
out-of-limit text (no_word none is) =
    ((λ h. absurd (two_answers text (Err 3) (Err 6) (λ e. omega (arith, e)) is h)), λ h. absurd (none-some (has_form text h.form).word (sym none ∙ has_word text true (has_form text h.form))))
out-of-limit text (no_form word first form is) =
    ((λ h. absurd (two_answers text (Err 4) (Err 6) (λ e. omega (arith, e)) is h)), λ h. let other = one_form text true (has_form text h.form) word first in cc)
out-of-limit text (no_value word first form is) = (
  (λ h. record {
    form = record { word = word; first = word-spelled (cut text).0 word first; fields = (fields_are_spaced (fields_of word) (cut text).1).0 form };
    no_line = λ line limits text_is. two_answers text (Err 6) (Ok line) (λ e. omega (arith, e)) is (ap map_line_of text_is ∙ line-back line limits);
  }),
  λ h. is,
)
out-of-limit text (line word first form l is) =
    ((λ h. absurd (two_answers text (Ok l) (Err 6) (λ e. omega (arith, e)) is h)), λ h. let sound = line-sound text l is in absurd (h.no_line l sound.1 sound.0))

-- of an answer that is the text's
answer-like : (text : List ℕ) (r : Result MapLine ℕ) (fault : ℕ) (P : Type 0) → r ≡ map_line_of text → (map_line_of text ≡ Err fault) ↔ P → (r ≡ Err fault) ↔ P
answer-like text r fault P is both = ((λ h. both.0 (sym is ∙ h)), λ p. is ∙ both.1 p)

pub no_word-fault : (text : List ℕ) (r : Result MapLine ℕ) → r ≡ map_line_of text → (r ≡ Err 3) ↔ HasNoWord text
no_word-fault text r is = answer-like text r 3 (HasNoWord text) is (no-word text (answer text))

pub no_form-fault : (text : List ℕ) (r : Result MapLine ℕ) → r ≡ map_line_of text → (r ≡ Err 4) ↔ HasNoForm text
no_form-fault text r is = answer-like text r 4 (HasNoForm text) is (no-form text (answer text))

pub out_of_limit-fault : (text : List ℕ) (r : Result MapLine ℕ) → r ≡ map_line_of text → (r ≡ Err 6) ↔ IsOutOfLimit text
out_of_limit-fault text r is = answer-like text r 6 (IsOutOfLimit text) is (out-of-limit text (answer text))
