-- Machines over one input after another.
use Rattle.std.proofs.Common.{◌≡◌, List, [], ◌∷◌, ◌++◌, refl, sym, ap, ◌∙◌, append_assoc}
use Rattle.demo_lines.specs.Machines.{run_of, outputs_of}

module _ {S L E : Type 0} (next : S → L → S) (output : S → L → List E) where
  pub run_of-append : (s : S) (ls ms : List L) → run_of next s (ls ++ ms) ≡ run_of next (run_of next s ls) ms
  run_of-append s [] ms = refl
  run_of-append s (l ∷ ls) ms = run_of-append (next s l) ls ms

  pub outputs_of-append : (s : S) (ls ms : List L) → outputs_of next output s (ls ++ ms) ≡ outputs_of next output s ls ++ outputs_of next output (run_of next s ls) ms
  outputs_of-append s [] ms = refl
  outputs_of-append s (l ∷ ls) ms =
      ap (λ es. output s l ++ es) (outputs_of-append (next s l) ls ms) ∙ sym (append_assoc (output s l) (outputs_of next output (next s l) ls) (outputs_of next output (run_of next (next s l) ls) ms))

  -- a state that no input changes
  pub run_of-fixed : (s : S) (ls : List L) → ((l : L) → next s l ≡ s) → run_of next s ls ≡ s
  run_of-fixed s [] fixed = refl
  run_of-fixed s (l ∷ ls) fixed = ap (λ t. run_of next t ls) (fixed l) ∙ run_of-fixed s ls fixed

  -- and that gives no output
  pub outputs_of-fixed : (s : S) (ls : List L) → ((l : L) → next s l ≡ s) → ((l : L) → output s l ≡ []) → outputs_of next output s ls ≡ []
  outputs_of-fixed s [] fixed quiet = refl
  outputs_of-fixed s (l ∷ ls) fixed quiet =
      ap (λ es. es ++ outputs_of next output (next s l) ls) (quiet l) ∙ ap (λ t. outputs_of next output t ls) (fixed l) ∙ outputs_of-fixed s ls fixed quiet
