-- The ids of a field, read one after another.
use Rattle.std.proofs.Common.{◌≡◌, ℕ, suc, ◌+◌, ◌<◌, ◌≤◌, ◌==◌, Bool, true, false, cond, not, List, [], ◌∷◌, ◌++◌, length, map, take, drop, Option, Some, None, refl, ap, sym, ◌∙◌, arith, append_assoc, length-append}
use Rattle.std.specs.Prelude.{nat_le, nat_lt, position}
use Rattle.std.specs.List.{position_or_len, onto_first}
use Rattle.std.proofs.lemmas.Bool.Decides.{nat_tests}
use Rattle.std.proofs.lemmas.List.Splits.{slice_split_first}
use Rattle.std.proofs.lemmas.Bool.{ltb-true, ltb-false}
use Rattle.edge_io.specs.Numbers.{natural_up_to}
use Rattle.out_text.specs.Journals.{all_there}
use Rattle.out_text.specs.Reading.{few_ids, parts_of, listed_in}

-- ids, and the others after them where they are there
abbrev pub after_ids : List ℕ → Option (List ℕ) → Option (List ℕ)
after_ids ids None = None
after_ids ids (Some more) = Some (ids ++ more)

pub after_nothing : (more : Option (List ℕ)) → after_ids [] more ≡ more
after_nothing None = refl
after_nothing (Some more) = refl

one_on : (ids : List ℕ) (id : ℕ) (reads : List (Option ℕ)) (others : Option (List ℕ)) → all_there reads ≡ others
    → after_ids ids (all_there (Some id ∷ reads)) ≡ after_ids (ids ++ id ∷ []) (all_there reads)
one_on ids id reads None is = rw is refl
one_on ids id reads (Some more) is = rw is (ap (λ l. Some l) (sym (append_assoc ids (id ∷ []) more)))

full_on : (ids : List ℕ) (id : ℕ) (reads : List (Option ℕ)) (others : Option (List ℕ)) → all_there reads ≡ others
    → 8 ≤ length ids → few_ids (after_ids ids (all_there (Some id ∷ reads))) ≡ None
full_on ids id reads None is full = rw is refl
full_on ids id reads (Some more) is full =
    let long = length-append ids (id ∷ more) in
    let over : nat_le (length (ids ++ id ∷ more)) 8 ≡ false = grind (arith, nat_tests, long, full) in
    rw (is, over) refl

-- what is read so far and what is left give what all gives
abbrev pub IsReadSoFar : List ℕ → List ℕ → List ℕ → Type 0
IsReadSoFar text ids rest = few_ids (after_ids ids (listed_in rest)) ≡ few_ids (listed_in text)

pub bad_part : (text ids rest part : List ℕ) (others : List (List ℕ)) → IsReadSoFar text ids rest → parts_of rest ≡ part ∷ others
    → natural_up_to 65535 part ≡ None → few_ids (listed_in text) ≡ None
bad_part text ids rest part others so_far split none =
    sym so_far ∙ ap (λ parts. few_ids (after_ids ids (all_there (map (natural_up_to 65535) parts)))) split ∙ rw none refl

pub full_part : (text ids rest part : List ℕ) (others : List (List ℕ)) (id : ℕ) → IsReadSoFar text ids rest → parts_of rest ≡ part ∷ others
    → natural_up_to 65535 part ≡ Some id → 8 ≤ length ids → few_ids (listed_in text) ≡ None
full_part text ids rest part others id so_far split some full =
    sym so_far ∙ ap (λ parts. few_ids (after_ids ids (all_there (map (natural_up_to 65535) parts)))) split
    ∙ ap (λ read. few_ids (after_ids ids (all_there (read ∷ map (natural_up_to 65535) others)))) some
    ∙ full_on ids id (map (natural_up_to 65535) others) _ refl full

pub next_part : (text ids rest part after : List ℕ) (id : ℕ) → IsReadSoFar text ids rest → parts_of rest ≡ part ∷ parts_of after
    → natural_up_to 65535 part ≡ Some id → IsReadSoFar text (ids ++ id ∷ []) after
next_part text ids rest part after id so_far split some =
    ap few_ids (sym (one_on ids id (map (natural_up_to 65535) (parts_of after)) _ refl))
    ∙ ap (λ read. few_ids (after_ids ids (all_there (read ∷ map (natural_up_to 65535) (parts_of after))))) (sym some)
    ∙ ap (λ parts. few_ids (after_ids ids (all_there (map (natural_up_to 65535) parts)))) (sym split)
    ∙ so_far

pub last_part : (text ids rest : List ℕ) (id : ℕ) → IsReadSoFar text ids rest → parts_of rest ≡ rest ∷ []
    → natural_up_to 65535 rest ≡ Some id → length ids < 8 → Some (ids ++ id ∷ []) ≡ few_ids (listed_in text)
last_part text ids rest id so_far split some room =
    let long = length-append ids (id ∷ []) in
    let within : nat_le (length (ids ++ id ∷ [])) 8 ≡ true = grind (arith, nat_tests, long, room) in
    let here : few_ids (Some (ids ++ id ∷ [])) ≡ Some (ids ++ id ∷ []) = rw within refl in
    sym here
    ∙ ap (λ read. few_ids (after_ids ids (all_there (read ∷ [])))) (sym some)
    ∙ ap (λ parts. few_ids (after_ids ids (all_there (map (natural_up_to 65535) parts)))) (sym split)
    ∙ so_far

-- where there is no comma, there is one part
pub one_part : (xs : List ℕ) → length xs ≤ position_or_len (λ b. b == 44) xs → parts_of xs ≡ xs ∷ []
one_part [] e = refl
one_part (x ∷ xs) e = by_test (one_part xs) (x == 44) e
  where
    by_test : (length xs ≤ position_or_len (λ b. b == 44) xs → parts_of xs ≡ xs ∷ []) → (comma : Bool)
        → suc (length xs) ≤ cond (not comma) (1 + position_or_len (λ b. b == 44) xs) 0
        → cond comma ([] ∷ parts_of xs) (onto_first x (parts_of xs)) ≡ (x ∷ xs) ∷ []
    by_test rest true e = absurd (omega (arith, e))
    by_test rest false e = ap (onto_first x) (rest (omega (arith, e)))

-- where there is one, it ends the first part
pub first_part : (xs : List ℕ) (i : ℕ) → position (λ b. b == 44) xs ≡ Some i
    → (parts_of xs ≡ take i xs ∷ parts_of (drop (i + 1) xs)) × (i < length xs)
first_part xs i e = by_test (nat_lt (position_or_len (λ b. b == 44) xs) (length xs)) refl e
  where
    by_test : (inside : Bool) → nat_lt (position_or_len (λ b. b == 44) xs) (length xs) ≡ inside
        → cond inside (Some (position_or_len (λ b. b == 44) xs)) None ≡ Some i
        → (parts_of xs ≡ take i xs ∷ parts_of (drop (i + 1) xs)) × (i < length xs)
    by_test true f g =
        let same : position_or_len (λ b. b == 44) xs ≡ i = cc in
        let before : position_or_len (λ b. b == 44) xs < length xs = ltb-true _ _ f in
        (rw same at (slice_split_first (λ b. b == 44) xs 0 before), rw same at before)
    by_test false f g = absurd cc

pub no_comma : (xs : List ℕ) → position (λ b. b == 44) xs ≡ None → parts_of xs ≡ xs ∷ []
no_comma xs e = by_test (nat_lt (position_or_len (λ b. b == 44) xs) (length xs)) refl e
  where
    by_test : (inside : Bool) → nat_lt (position_or_len (λ b. b == 44) xs) (length xs) ≡ inside
        → cond inside (Some (position_or_len (λ b. b == 44) xs)) None ≡ None → parts_of xs ≡ xs ∷ []
    by_test true f g = absurd cc
    by_test false f g =
        one_part xs (ltb-false _ _ f)
