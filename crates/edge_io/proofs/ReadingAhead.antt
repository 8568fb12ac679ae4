-- Reads that follow each other, none of which reads ahead.
use Rattle.std.proofs.Common.{◌≡◌, ℕ, List, inl, inr, refl, ap, ◌∙◌, arith}
use Rattle.edge_io.specs.Lines.{HasNotReadAhead}

module _ {S : Type 0} (last : S → ℕ) where
  -- where nothing was read
  pub HasNotReadAhead-same : (a : S) (xs : List ℕ) → HasNotReadAhead a a (last a) xs xs
  HasNotReadAhead-same a xs = inl (refl, omega arith)

  pub HasNotReadAhead-trans : (a b c : S) (xs ys zs : List ℕ) → HasNotReadAhead a b (last b) xs ys → HasNotReadAhead b c (last c) ys zs
      → HasNotReadAhead a c (last c) xs zs
  HasNotReadAhead-trans a b c xs ys zs one (inr some) = inr some
  HasNotReadAhead-trans a b c xs ys zs (inl (same, less)) (inl (same_then, less_then)) = inl (same_then ∙ same, omega arith)
  HasNotReadAhead-trans a b c xs ys zs (inr some) (inl (same, less)) =
      let unread : last c ≡ last b = ap last same in
      inr (omega arith)
