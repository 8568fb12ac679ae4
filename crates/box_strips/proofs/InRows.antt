-- Places in rows of bits that lie one after another.
use Rattle.std.proofs.Common.{◌≡◌, ℕ, suc, ◌+◌, ◌*◌, ◌/◌, ◌%◌, ◌<◌, ◌≤◌, true, List, length, drop, get_or, set, sym, ap, ◌∙◌, arith}
use Rattle.std.proofs.Math.Nat.{suc-mul, mul-le-mul_right}
use Rattle.std.proofs.lemmas.List.{get_or-take, get_or-drop, length-take}
use Rattle.box_strips.specs.Places.{has_bit, has_place, KeepsPlaces}
use Rattle.box_strips.specs.Strips.{row_of, IsInRow}
use Rattle.box_strips.proofs.PlaceBits.{place_within, place_put}

-- ---- where a row lies

-- the rows after the first ones begin where those end
pub next_row : (row words : ℕ) → (row + 1) * words ≡ row * words + words
next_row row words =
    let next : row + 1 ≡ suc row = omega arith in
    ap (λ (n : ℕ). n * words) next ∙ suc-mul row words

-- each of so many rows is within them
pub row_within : (count words row long : ℕ) → row < count → long ≡ count * words → row * words + words ≤ long
row_within count words row long less long_is =
    let below : row + 1 ≤ count = omega (arith, less) in
    omega (arith, mul-le-mul_right words below, next_row row words, long_is)

-- ---- a place of a row among all of them

pub word_at : (first place : ℕ) → (64 * first + place) / 64 ≡ first + place / 64
word_at first place = omega arith

pub bit_at : (first place : ℕ) → (64 * first + place) % 64 ≡ place % 64
bit_at first place = omega arith

-- it has its bit in the row exactly where it has it among all of them
in_row : (words : ℕ) (rows : List ℕ) (row place : ℕ) → place / 64 < words
    → has_place (row_of words rows row) place ≡ has_place rows (64 * (row * words) + place)
in_row words rows row place within =
    ap (λ (w : ℕ). has_bit w (place % 64)) (get_or-take words (drop (row * words) rows) (place / 64) 0 within ∙ get_or-drop (row * words) rows (place / 64) 0)
    ∙ ap (λ (k : ℕ). has_bit (get_or rows k 0) (place % 64)) (sym (word_at (row * words) place))
    ∙ ap (has_bit (get_or rows ((64 * (row * words) + place) / 64) 0)) (sym (bit_at (row * words) place))

-- what is in a row is in one of its words
pub within_row : (words : ℕ) (rows : List ℕ) (row place : ℕ) → IsInRow words rows row place → place / 64 < words
within_row words rows row place there =
    omega (arith, place_within (row_of words rows row) place there, length-take words (drop (row * words) rows))

pub among_all : (words : ℕ) (rows : List ℕ) (row place : ℕ) → IsInRow words rows row place → has_place rows (64 * (row * words) + place) ≡ true
among_all words rows row place there = sym (in_row words rows row place (within_row words rows row place there)) ∙ there

pub of_row : (words : ℕ) (rows : List ℕ) (row place : ℕ) → place / 64 < words → has_place rows (64 * (row * words) + place) ≡ true → IsInRow words rows row place
of_row words rows row place within there = in_row words rows row place within ∙ there

-- what is in a row stays in it
pub stays_in_row : (words : ℕ) (old new : List ℕ) (row place : ℕ) → KeepsPlaces old new → IsInRow words old row place → IsInRow words new row place
stays_in_row words old new row place keeps there =
    of_row words new row place (within_row words old row place there) (keeps _ (among_all words old row place there))

-- ---- a place is put into a row

pub put_there : (words : ℕ) (rows : List ℕ) (row place new : ℕ) → place < 64 * words → row * words + words ≤ length rows → has_bit new (place % 64) ≡ true
    → IsInRow words (set rows (row * words + place / 64) new) row place
put_there words rows row place new below fits here =
    let word = row * words + place / 64 in
    let within : place / 64 < words = omega (arith, below) in
    of_row words (set rows word new) row place within
    (place_put rows word new (64 * (row * words) + place) (omega (arith, within, fits))
    (λ same. ap (has_bit new) (bit_at (row * words) place) ∙ here)
    (λ other. absurd (other (word_at (row * words) place))))
