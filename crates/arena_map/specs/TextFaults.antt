-- Why a text is no line of a map.
use Rattle.std.specs.Prelude.{◌≡◌, ◌≢◌, ⊤, true, ℕ, List, [], ◌∷◌, ◌++◌}
use Rattle.edge_io.specs.Fields.{cut, field_text}
use Rattle.arena_map.specs.declared.map_line.MapLine.{MapLine}
use Rattle.arena_map.specs.declared.map_word.MapWord.{MapWord}
use Rattle.arena_map.specs.declared.map_word.MapField.{MapField}
use Rattle.arena_map.specs.MapLines.{IsWithinLimits}
use Rattle.arena_map.specs.Words.{word_text, fields_of}
use Rattle.arena_map.specs.Reading.{is_field}
use Rattle.arena_map.specs.Spelling.{map_line_text}

-- fields, each after a space
abbrev pub texts_after_spaces : List (List ℕ) → List ℕ
texts_after_spaces [] = []
texts_after_spaces (text ∷ texts) = field_text text ++ texts_after_spaces texts

-- there are as many texts as fields, and each is a number or an item's kind where that field is one
abbrev pub AreOfForm : List MapField → List (List ℕ) → Type 0
AreOfForm [] [] = ⊤
AreOfForm [] (text ∷ texts) = ⊥
AreOfForm (field ∷ fields) [] = ⊥
AreOfForm (field ∷ fields) (text ∷ texts) = (is_field field text ≡ true) × AreOfForm fields texts

-- the text is that of such fields, and nothing more
pub record IsOfFields (fields : List MapField) (rest : List ℕ) : Type 0 where
  pub texts : List (List ℕ)
  pub forms : AreOfForm fields texts
  pub spelled : rest ≡ texts_after_spaces texts

-- the first word of the text is no word of a map
abbrev pub HasNoWord : List ℕ → Type 0
HasNoWord text = (word : MapWord) → (cut text).0 ≢ word_text word

-- the first word of the text is a word of a map, and after it aren't the fields that the word wants: their number is
-- another, or one isn't a number or an item's kind where it should be
pub record HasNoForm (text : List ℕ) : Type 0 where
  pub word : MapWord
  pub first : (cut text).0 ≡ word_text word
  pub no_fields : IsOfFields (fields_of word) (cut text).1 → ⊥

-- the first word of the text is a word of a map, and after it are the fields that the word wants
pub record HasForm (text : List ℕ) : Type 0 where
  pub word : MapWord
  pub first : (cut text).0 ≡ word_text word
  pub fields : IsOfFields (fields_of word) (cut text).1

-- the text has a word of a map and the fields that the word wants, and it is the text of no line whose numbers are within
-- their limits
pub record IsOutOfLimit (text : List ℕ) : Type 0 where
  pub form : HasForm text
  pub no_line : (line : MapLine) → IsWithinLimits line → text ≢ map_line_text line
