-- The digits of bytes, a few at a time.
use Rattle.std.proofs.Common.{◌≡◌, ℕ, zero, suc, ◌+◌, ◌-◌, ◌*◌, ◌/◌, ◌%◌, ◌<◌, ◌≤◌, List, [], ◌∷◌, ◌++◌, length, get_or, take, drop, refl, ap, sym, ◌∙◌, append_assoc, append-nil, add-one, drop-cons, length-append, length-drop, arith}
use Rattle.std.specs.Prelude.{slice_index, slice_set}
use Rattle.hex.specs.Hex.{lower_digits, encode_with, encode_lower}
use Rattle.std.proofs.lemmas.List.{take_more}
use Rattle.hex.proofs.HexLemmas.{length-encode_with}
use Rattle.hex.proofs.Pairs.{take-two_writes}
use Rattle.snapshot_write.proofs.Blocks.{rest_is}

-- after the digits of the next byte, those of the others are left
pub one_more : (out all : List ℕ) (bytes : List ℕ) (i d : ℕ) → i < length bytes → out ++ encode_lower (drop i bytes) ≡ all
    → (out ++ slice_index lower_digits (get_or bytes i d / 16) ∷ slice_index lower_digits (get_or bytes i d % 16) ∷ []) ++ encode_lower (drop (i + 1) bytes) ≡ all
unfolding encode_with
one_more out all bytes i d inside so_far =
    let next : drop (i + 1) bytes ≡ drop (suc i) bytes = rw add-one refl in
    append_assoc out _ _
    ∙ ap (λ (l : List ℕ). out ++ (slice_index lower_digits (get_or bytes i d / 16) ∷ slice_index lower_digits (get_or bytes i d % 16) ∷ encode_lower l)) next
    ∙ ap (λ (l : List ℕ). out ++ encode_lower l) (sym (drop-cons bytes i d inside))
    ∙ so_far

-- the digits of bytes and of others are those of all
pub digits-append : (a b : List ℕ) → encode_lower (a ++ b) ≡ encode_lower a ++ encode_lower b
unfolding encode_with
digits-append [] b = refl
digits-append (x ∷ a) b = ap (λ (l : List ℕ). slice_index lower_digits (x / 16) ∷ slice_index lower_digits (x % 16) ∷ l) (digits-append a b)

-- two digits more, put after those of the bytes before
pub puts_two : (digits bytes : List ℕ) (i high low : ℕ) → 2 * i + 1 < length digits → i < length bytes
    → high ≡ slice_index lower_digits (slice_index bytes i / 16) → low ≡ slice_index lower_digits (slice_index bytes i % 16)
    → take (2 * i) digits ≡ encode_lower (take i bytes)
    → take (2 * (i + 1)) (slice_set (slice_set digits (2 * i) high) (2 * i + 1) low) ≡ encode_lower (take (i + 1) bytes)
unfolding encode_with
puts_two digits bytes i high low room inside is_high is_low so_far =
    let after : 2 * (i + 1) ≡ 2 * i + 2 = omega arith in
    ap (λ n. take n (slice_set (slice_set digits (2 * i) high) (2 * i + 1) low)) after
    ∙ take-two_writes digits (2 * i) high low room
    ∙ ap (λ (l : List ℕ). l ++ high ∷ low ∷ []) so_far
    ∙ ap (λ h. encode_lower (take i bytes) ++ h ∷ low ∷ []) is_high
    ∙ ap (λ n. encode_lower (take i bytes) ++ slice_index lower_digits (slice_index bytes i / 16) ∷ n ∷ []) is_low
    ∙ sym (digits-append (take i bytes) (slice_index bytes i ∷ []))
    ∙ ap encode_lower (sym (take_more bytes i 0 inside))

-- the first eight bytes
pub first_eight : (bytes : List ℕ) → 8 ≤ length bytes
    → take 8 bytes ≡ slice_index bytes 0 ∷ slice_index bytes 1 ∷ slice_index bytes 2 ∷ slice_index bytes 3 ∷ slice_index bytes 4 ∷ slice_index bytes 5 ∷ slice_index bytes 6 ∷ slice_index bytes 7 ∷ []
first_eight [] h = absurd (omega (arith, h))
first_eight (a ∷ []) h = absurd (omega (arith, h))
first_eight (a ∷ b ∷ []) h = absurd (omega (arith, h))
first_eight (a ∷ b ∷ c ∷ []) h = absurd (omega (arith, h))
first_eight (a ∷ b ∷ c ∷ d ∷ []) h = absurd (omega (arith, h))
first_eight (a ∷ b ∷ c ∷ d ∷ e ∷ []) h = absurd (omega (arith, h))
first_eight (a ∷ b ∷ c ∷ d ∷ e ∷ f ∷ []) h = absurd (omega (arith, h))
first_eight (a ∷ b ∷ c ∷ d ∷ e ∷ f ∷ g ∷ []) h = absurd (omega (arith, h))
first_eight (a ∷ b ∷ c ∷ d ∷ e ∷ f ∷ g ∷ i ∷ rest) h = refl

-- a list is its front and the rest
take-drop : (n : ℕ) (xs : List ℕ) → take n xs ++ drop n xs ≡ xs
take-drop zero xs = refl
take-drop (suc n) [] = refl
take-drop (suc n) (x ∷ xs) = ap (λ (l : List ℕ). x ∷ l) (take-drop n xs)

-- after the digits of the first bytes, those of the others are left
pub some_more : (out all rest digits : List ℕ) (n : ℕ) → digits ≡ encode_lower (take n rest) → out ++ encode_lower rest ≡ all
    → (out ++ digits) ++ encode_lower (take (length rest - n) (drop n rest)) ≡ all
some_more out all rest digits n digits_are so_far =
    ap (λ (l : List ℕ). (out ++ digits) ++ encode_lower l) (rest_is n rest)
    ∙ append_assoc out digits (encode_lower (drop n rest))
    ∙ ap (λ (l : List ℕ). out ++ (l ++ encode_lower (drop n rest))) digits_are
    ∙ ap (λ (l : List ℕ). out ++ l) (sym (digits-append (take n rest) (drop n rest)))
    ∙ ap (λ (l : List ℕ). out ++ encode_lower l) (take-drop n rest)
    ∙ so_far

-- there is room for them
pub room_left : (out rest digits : List ℕ) (room n : ℕ) → digits ≡ encode_lower (take n rest) → n ≤ length rest → length out + 2 * length rest ≤ room
    → length (out ++ digits) + 2 * length (take (length rest - n) (drop n rest)) ≤ room
room_left out rest digits room n digits_are inside fits =
    let front : length (take n rest) ≡ n = length-take n rest inside in
    let long : length digits ≡ 2 * length (take n rest) = ap (λ (l : List ℕ). length l) digits_are ∙ length-encode_with lower_digits (take n rest) in
    let left : length (take (length rest - n) (drop n rest)) ≡ length rest - n = ap (λ (l : List ℕ). length l) (rest_is n rest) ∙ length-drop n rest in
    omega (arith, length-append out digits, front, long, left, inside, fits)
  where
    length-take : (m : ℕ) (ys : List ℕ) → m ≤ length ys → length (take m ys) ≡ m
    length-take zero ys h = refl
    length-take (suc m) [] h = absurd (omega (arith, h))
    length-take (suc m) (y ∷ ys) h = ap suc (length-take m ys (omega (arith, h)))

-- when no byte is left, all are put
pub none_left : (out all bytes : List ℕ) (i : ℕ) → length bytes ≤ i → out ++ encode_lower (drop i bytes) ≡ all → out ≡ all
unfolding encode_with
none_left out all bytes i past so_far =
    sym (append-nil out) ∙ ap (λ (l : List ℕ). out ++ encode_lower l) (sym (nothing bytes i past)) ∙ so_far
  where
    nothing : (xs : List ℕ) (n : ℕ) → length xs ≤ n → drop n xs ≡ []
    nothing [] zero h = refl
    nothing [] (suc n) h = refl
    nothing (x ∷ xs) zero h = absurd (omega (arith, h))
    nothing (x ∷ xs) (suc n) h = nothing xs n (omega (arith, h))
