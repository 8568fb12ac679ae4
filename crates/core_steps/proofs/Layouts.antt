-- Where the words lie in the flat table.
use Rattle.std.proofs.Common.{◌≡◌, ℕ, ◌+◌, ◌-◌, ◌/◌, ◌%◌, ◌<◌, false, refl, ap, ◌∙◌, arith}
use Rattle.std.specs.Prelude.{◌==◌}
use Rattle.std.proofs.lemmas.Bool.{cond-true, cond-false, lt-ltb, le-ltb, ne_eqb}
use Rattle.core_steps.specs.Cells.{links_index, body_index, state_index}
use Rattle.core_steps.specs.Laws.{LayoutIsRight}

pub not_first : (n : ℕ) → 0 < n → (n == 0) ≡ false
not_first n some = ne_eqb n 0 (λ e. omega arith)

pub layout_is_right : LayoutIsRight
layout_is_right words = record {
  count = refl;
  node = λ v below.
      let index = 1 + v in
      cond-false _ _ _ (not_first index (omega arith))
      ∙ cond-true _ _ _ (lt-ltb index (links_index 0) (omega arith))
      ∙ ap words.node (omega arith);
  links = λ v below.
      let index = links_index v in
      cond-false _ _ _ (not_first index (omega arith))
      ∙ cond-false _ _ _ (le-ltb index (links_index 0) (omega arith))
      ∙ cond-true _ _ _ (lt-ltb index (body_index 0) (omega arith))
      ∙ ap words.links (omega arith);
  body = λ slot k below five.
      let index = body_index slot + k in
      let first : (index - body_index 0) / 5 ≡ slot = omega arith in
      let second : (index - body_index 0) % 5 ≡ k = omega arith in
      cond-false _ _ _ (not_first index (omega arith))
      ∙ cond-false _ _ _ (le-ltb index (links_index 0) (omega arith))
      ∙ cond-false _ _ _ (le-ltb index (body_index 0) (omega arith))
      ∙ cond-true _ _ _ (lt-ltb index (state_index 0) (omega arith))
      ∙ rw (first, second) refl;
  state = λ id.
      let index = state_index id in
      cond-false _ _ _ (not_first index (omega arith))
      ∙ cond-false _ _ _ (le-ltb index (links_index 0) (omega arith))
      ∙ cond-false _ _ _ (le-ltb index (body_index 0) (omega arith))
      ∙ cond-false _ _ _ (le-ltb index (state_index 0) (omega arith))
      ∙ ap words.state (omega arith);
}
