-- Lists that are equal at each place.
use Rattle.std.proofs.Common.{◌≡◌, ℕ, zero, suc, ◌<◌, List, [], ◌∷◌, length, map, get_or, refl, sym, ap₂, ◌∙◌, arith}
use Rattle.std.proofs.lemmas.List.{length-map, get_or-map}

-- lists of one length with the same element at each place are equal
pub same_at_each : {X : Type 0} → (xs ys : List X) → length xs ≡ length ys → ((i : ℕ) (d : X) → i < length xs → get_or xs i d ≡ get_or ys i d) → xs ≡ ys
same_at_each [] [] same at = refl
same_at_each [] (y ∷ ys) same at = absurd (omega (arith, same))
same_at_each (x ∷ xs) [] same at = absurd (omega (arith, same))
same_at_each (x ∷ xs) (y ∷ ys) same at =
    ap₂ (λ z zs. z ∷ zs) (at zero x (omega arith)) (same_at_each xs ys (omega (arith, same)) (λ i d below. at (suc i) d (omega (arith, below))))

-- a list with what a function gives at each place of another list
pub mapped_at_each : {X Y : Type 0} → (f : X → Y) (xs : List X) (d : X) (ys : List Y) → length ys ≡ length xs → ((i : ℕ) (e : Y) → i < length xs → get_or ys i e ≡ f (get_or xs i d)) → ys ≡ map f xs
mapped_at_each f xs d ys same at =
    same_at_each ys (map f xs) (same ∙ sym (length-map xs f)) (λ i e below. let inside : i < length xs = omega (arith, below, same) in at i e inside ∙ sym (get_or-map f xs i d e inside))
