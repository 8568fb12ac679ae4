-- A machine that goes from state to state over its inputs, and may give outputs at each of them.
use Rattle.std.specs.Prelude.{List, [], ◌∷◌, ◌++◌}

-- the state after these inputs
abbrev pub run_of : {S L : Type 0} → (S → L → S) → S → List L → S
run_of next s [] = s
run_of next s (l ∷ ls) = run_of next (next s l) ls

-- the outputs over these inputs
abbrev pub outputs_of : {S L E : Type 0} → (S → L → S) → (S → L → List E) → S → List L → List E
outputs_of next output s [] = []
outputs_of next output s (l ∷ ls) = output s l ++ outputs_of next output (next s l) ls
