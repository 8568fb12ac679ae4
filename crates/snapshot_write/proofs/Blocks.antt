-- Blocks of 16 bytes, and the tests of their ids.
use Rattle.std.proofs.Common.{◌≡◌, ℕ, zero, suc, ◌+◌, ◌-◌, ◌≤◌, ◌<◌, Bool, true, false, ◌&&◌, ◌||◌, List, [], ◌∷◌, ◌++◌, length, map, take, drop, get_or, Option, Some, None, refl, ap, sym, ◌∙◌, arith, length-drop, length-take-le}
use Rattle.std.proofs.lemmas.List.{take_more, take_all, map-append, length-map}
use Rattle.std.proofs.lemmas.List.Folds.{list_any-append}
use Rattle.std.specs.Prelude.{nat_lt, if◌then◌else◌}
use Rattle.std.specs.List.{list_any}
use Rattle.std.specs.Simd.{first_chunks}
use Rattle.snapshot_write.specs.declared.seen.Seen.{Seen}
use Rattle.snapshot_write.specs.Fields.{id_in}
use Rattle.snapshot_write.specs.Faults.{are_rising, has_wrong_field}
use Rattle.snapshot_write.specs.Reading.{seen_in}
use Rattle.snapshot_write.specs.Spelling.{is_rising}

pub list_any-map : {X Y : Type 0} (p : Y → Bool) (f : X → Y) (xs : List X) → list_any p (map f xs) ≡ list_any (λ x. p (f x)) xs
list_any-map p f [] = refl
list_any-map p f (x ∷ xs) = ap (λ b. p (f x) || b) (list_any-map p f xs)

-- the ids of the blocks rise where each block's is below the next one's
pub rising_blocks : (blocks : List (List ℕ)) → are_rising blocks ≡ is_rising (map id_in blocks)
rising_blocks [] = refl
rising_blocks (b ∷ []) = refl
rising_blocks (b ∷ c ∷ blocks) = ap (λ rest. nat_lt (id_in b) (id_in c) && rest) (rising_blocks (c ∷ blocks))

-- the first blocks of more
pub fewer_blocks : {X : Type 0} (n k m : ℕ) (xs : List X) → k ≤ m → take k (first_chunks n m xs) ≡ first_chunks n k xs
fewer_blocks n zero m xs le = refl
fewer_blocks n (suc k) zero xs le = absurd (omega arith)
fewer_blocks n (suc k) (suc m) xs le = ap (λ l. take n xs ∷ l) (fewer_blocks n k m (drop n xs) (omega arith))

-- what is left after the first bytes
pub rest_is : (n : ℕ) (bytes : List ℕ) → take (length bytes - n) (drop n bytes) ≡ drop n bytes
rest_is n bytes = take_all (length bytes - n) (drop n bytes) (omega (arith, length-drop n bytes))

-- an entity that is there, where there is one unless its block is wrong
entity_is : (wrong : Bool) (of_block entity : Seen) → (if wrong then None else Some of_block) ≡ Some entity
    → (wrong ≡ false) × (entity ≡ of_block)
entity_is true of_block entity e = absurd cc
entity_is false of_block entity e = (refl, cc)

-- a loop's step over a block that is read
pub record IsReadOn (blocks : List (List ℕ)) (i : ℕ) (entity : Seen) : Type 0 where
  pub right : list_any has_wrong_field (take (i + 1) blocks) ≡ false
  pub entities : map seen_in (take (i + 1) blocks) ≡ map seen_in (take i blocks) ++ entity ∷ []

pub read_on : (blocks : List (List ℕ)) (i : ℕ) (d : List ℕ) (read : Option Seen) (entity : Seen) → i < length blocks
    → list_any has_wrong_field (take i blocks) ≡ false
    → read ≡ (if has_wrong_field (get_or blocks i d) then None else Some (seen_in (get_or blocks i d)))
    → read ≡ Some entity → IsReadOn blocks i entity
read_on blocks i d read entity inside right is some =
    let block = get_or blocks i d in
    let here = entity_is (has_wrong_field block) (seen_in block) entity (sym is ∙ some) in
    let more = take_more blocks i d inside in
    record {
      right =
          ap (list_any has_wrong_field) more ∙ list_any-append has_wrong_field (take i blocks) (block ∷ [])
          ∙ rw (right, here.0) refl;
      entities = ap (map seen_in) more ∙ map-append seen_in (take i blocks) (block ∷ []) ∙ rw here.1 refl;
    }

-- as many entities are read as blocks
pub length_read : (blocks : List (List ℕ)) (i : ℕ) → i < length blocks → length (map seen_in (take i blocks)) ≡ i
length_read blocks i inside = length-map (take i blocks) seen_in ∙ length-take-le i blocks (omega arith)
