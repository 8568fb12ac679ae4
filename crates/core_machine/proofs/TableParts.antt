-- The part of the table in which an index lies.
use Rattle.std.proofs.Common.{◌≡◌, ℕ, ◌-◌, ◌/◌, ◌%◌, ◌<◌, ◌≤◌, ◌∙◌, arith}
use Rattle.std.proofs.lemmas.Bool.{cond-true, cond-false, lt-ltb, le-ltb}
use Rattle.core_steps.specs.declared.sizes.TheConstants.{FIRST_RECORD_WORD, FIRST_STATE_WORD}
use Rattle.core_steps.specs.Cells.{Words, Body, State, with_word, links_index, body_index, state_index}
use Rattle.core_steps.proofs.Layouts.{not_first}
use Rattle.core_machine.specs.Tables.{with_word_at}

pub in_body : (words : Words) (index x : ℕ) → FIRST_RECORD_WORD ≤ index → index < FIRST_STATE_WORD → with_word_at words index x ≡ with_word words (Body ((index - FIRST_RECORD_WORD) / 5) ((index - FIRST_RECORD_WORD) % 5)) x
in_body words index x least most =
    cond-false _ _ _ (not_first index (omega arith))
    ∙ cond-false _ _ _ (le-ltb index (links_index 0) (omega arith))
    ∙ cond-false _ _ _ (le-ltb index (body_index 0) (omega arith))
    ∙ cond-true _ _ _ (lt-ltb index (state_index 0) (omega arith))

pub in_state : (words : Words) (index x : ℕ) → FIRST_STATE_WORD ≤ index → with_word_at words index x ≡ with_word words (State (index - FIRST_STATE_WORD)) x
in_state words index x least =
    cond-false _ _ _ (not_first index (omega arith))
    ∙ cond-false _ _ _ (le-ltb index (links_index 0) (omega arith))
    ∙ cond-false _ _ _ (le-ltb index (body_index 0) (omega arith))
    ∙ cond-false _ _ _ (le-ltb index (state_index 0) (omega arith))
