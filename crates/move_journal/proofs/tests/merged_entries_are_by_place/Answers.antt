use Rattle.std.proofs.Common.{rules, ◌≡◌, ℕ, List, [], ◌∷◌, ◌++◌, length, refl, ap, sym, ◌∙◌, subst, arith}
use Rattle.std.specs.List.{range_with_len}
use Rattle.std.specs.List.Sorted.{IsPermutation}
use Rattle.std.proofs.lemmas.List.{map-append, length-map}
use Rattle.entity_recs.specs.declared.effect.Entry.{Entry}
use Rattle.move_journal.specs.ByPlace.{places_of}
use Rattle.move_journal.proofs.tests.merged_entries_are_by_place.Goals as goal

-- the places 1, 0 and 2 are the first three numbers
three : IsPermutation (1 ∷ 0 ∷ 2 ∷ []) (range_with_len 0 3)
three = record { moves = (0, 1) ∷ []; below = (omega arith, omega arith, tt); is = refl }

numbered : (a b : List Entry) → places_of a ≡ 1 ∷ [] → places_of b ≡ 0 ∷ 2 ∷ []
    → IsPermutation (places_of (a ++ (b ++ []))) (range_with_len 0 (length (a ++ (b ++ []))))
numbered a b first second =
    let places : places_of (a ++ (b ++ [])) ≡ 1 ∷ 0 ∷ 2 ∷ [] =
    map-append (λ (e : Entry). e.place) a (b ++ []) ∙ ap (λ xs. places_of a ++ xs) (map-append (λ (e : Entry). e.place) b []) ∙ ap (λ xs. xs ++ (places_of b ++ [])) first ∙ ap (λ xs. 1 ∷ (xs ++ [])) second in
    let long : length (a ++ (b ++ [])) ≡ 3 = sym (length-map (a ++ (b ++ [])) (λ (e : Entry). e.place)) ∙ ap length places in
    subst (λ (xs : List ℕ). IsPermutation xs (range_with_len 0 (length (a ++ (b ++ []))))) (sym places) (subst (λ (n : ℕ). IsPermutation (1 ∷ 0 ∷ 2 ∷ []) (range_with_len 0 n)) (sym long) three)

pub merge-requires-clause-numbered : goal.merge-requires-clause-numbered
merge-requires-clause-numbered g c = numbered c.push.new.self.entries c.push-3.new.self.entries (search rules) (search rules)
