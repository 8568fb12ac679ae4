-- The places of each row are put into all rows after it.
use Rattle.std.proofs.Common.{◌≡◌, ℕ, zero, suc, ◌+◌, ◌-◌, ◌*◌, ◌/◌, ◌%◌, ◌<◌, ◌≤◌, true, List, length, get_or, set, bit_or, sym, ap, ◌∙◌, subst, arith}
use Rattle.box_strips.specs.Places.{has_bit, has_place, KeepsPlaces}
use Rattle.box_strips.specs.Strips.{SpreadsRows}
use Rattle.box_strips.proofs.PlaceBits.{place_put, keeps_put, other_word, at_word, or_has, or_has_too}
use Rattle.box_strips.proofs.InRows.{next_row, row_within, word_at, within_row, among_all, of_row}

-- what was set stays set; and where a place is set, so is the same one of the next row, in the words so far
pub record AreSpread (words : ℕ) (old new : List ℕ) (n : ℕ) : Type 0 where
  pub kept : KeepsPlaces old new
  pub spread : 0 < words → (place : ℕ) → place / 64 + words < n → has_place new place ≡ true → has_place new (place + 64 * words) ≡ true

pub spread_first : (words : ℕ) (rows : List ℕ) → AreSpread words rows rows words
spread_first words rows = record {
  kept = λ place there. there;
  spread = λ some place less there. absurd (omega (arith, less));
}

later : (words place : ℕ) → (place + 64 * words) / 64 ≡ place / 64 + words
later words place = omega arith

later_bit : (words place : ℕ) → (place + 64 * words) % 64 ≡ place % 64
later_bit words place = omega arith

pub spread_more : (words : ℕ) (old new : List ℕ) (n : ℕ) → words ≤ n → n < length new → AreSpread words old new n
    → AreSpread words old (set new n (bit_or (get_or new n 0) (get_or new (n - words) 0))) (n + 1)
spread_more words old new n least within are =
    let here = get_or new n 0 in
    let before = get_or new (n - words) 0 in
    let keeps = keeps_put new n (bit_or here before) within (λ i there. or_has here before i there) in
    record {
      kept = λ place there. keeps place (are.kept place there);
      spread = λ some place less there.
          let was : has_place new place ≡ true = other_word new n (bit_or here before) place (λ same. omega (arith, same, less, some)) there in
          place_put new n (bit_or here before) (place + 64 * words) within
          (λ same.
          or_has_too here before ((place + 64 * words) % 64)
          (ap (has_bit before) (later_bit words place)
          ∙ at_word new (n - words) place (omega (arith, same, later words place)) was))
          (λ other. are.spread some place (omega (arith, less, other, later words place)) was);
    }

-- of so many rows, each has what those before it have
pub all_spread : (words : ℕ) (old new : List ℕ) (n count : ℕ) → length new ≤ n → length new ≡ count * words → AreSpread words old new n → SpreadsRows count words old new
all_spread words old new n count last long are row place there to least less =
    let within = within_row words old row place there in
    let there_too = go within (to - row) (omega (arith, least, less)) in
    let to_is : row + (to - row) ≡ to = omega (arith, least) in
    of_row words new to place within (subst (λ (k : ℕ). has_place new (64 * (k * words) + place) ≡ true) to_is there_too)
  where
    first_is : row + 0 ≡ row
    first_is = omega arith

    -- the place in the next row
    moved : (k : ℕ) → (64 * ((row + k) * words) + place) + 64 * words ≡ 64 * ((row + suc k) * words) + place
    moved k =
        let next : row + suc k ≡ (row + k) + 1 = omega arith in
        omega (arith, next_row (row + k) words, ap (λ (m : ℕ). m * words) next)

    go : place / 64 < words → (k : ℕ) → row + k < count → has_place new (64 * ((row + k) * words) + place) ≡ true
    go within zero below =
        ap (λ (m : ℕ). has_place new (64 * (m * words) + place)) first_is ∙ are.kept _ (among_all words old row place there)
    go within (suc k) below =
        let next : row + suc k ≡ (row + k) + 1 = omega arith in
        let fits = row_within count words ((row + k) + 1) (length new) (omega (arith, below)) long in
        let up = next_row (row + k) words in
        let at = word_at ((row + k) * words) place in
        ap (has_place new) (sym (moved k))
        ∙ are.spread (omega (arith, within)) (64 * ((row + k) * words) + place) (omega (arith, at, fits, up, last, within)) (go within k (omega (arith, below)))
