-- Ids with commas between them.
use Rattle.std.specs.Fmt.{decimal}
use Rattle.std.proofs.Common.{[], ◌≡◌, ℕ, List, ◌∷◌, ◌++◌, ap, sym, append-nil}
use Rattle.out_text.specs.OutLines.{ids_text}

-- ids after the first, each after a comma
abbrev pub more_ids : List ℕ → List ℕ
more_ids [] = []
more_ids (id ∷ ids) = 44 ∷ (decimal id ++ more_ids ids)

-- ids with a comma between any two are the first and the others, each after a comma
pub ids-first : (id : ℕ) (ids : List ℕ) → ids_text (id ∷ ids) ≡ decimal id ++ more_ids ids
ids-first id [] = sym (append-nil (decimal id))
ids-first id (next ∷ ids) = ap (λ l. decimal id ++ (44 ∷ l)) (ids-first next ids)
