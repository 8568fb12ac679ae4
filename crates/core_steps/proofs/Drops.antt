-- Nodes that are held, and one that is given back.
use Rattle.std.proofs.Common.{◌≡◌, ℕ, true, false, List, [], ◌∷◌, refl, sym, ◌∙◌, inl, inr}
use Rattle.std.specs.Prelude.{◌==◌, ◌||◌}
use Rattle.std.proofs.lemmas.Bool.{true≢false, eq-eqb, or_cases, or_left, or_right, or_from, false_from_ne_true}
use Rattle.core_steps.specs.Nodes.{Fixed, is_leaf, has}
use Rattle.core_steps.specs.Points.{Stage, is_writing}
use Rattle.core_steps.specs.Held.{held_word}
use Rattle.core_steps.specs.Stands.{IsHolding}
use Rattle.core_steps.proofs.Puts.{eqb_sym}

-- of these inner nodes and leaves one is given back, and the others stay
pub record Drops (inner leaves inner' leaves' : List ℕ) (node : ℕ) : Type 0 where
  pub held : (has inner node || has leaves node) ≡ true
  pub gone : (has inner' node || has leaves' node) ≡ false
  pub less : (v : ℕ) → (has inner' v || has leaves' v) ≡ true → (has inner v || has leaves v) ≡ true
  pub rest : (v : ℕ) → (has inner v || has leaves v) ≡ true → (v == node) ≡ false → (has inner' v || has leaves' v) ≡ true

has_first : (n : ℕ) (ns : List ℕ) → has (n ∷ ns) n ≡ true
has_first n ns = or_left (n == n) (has ns n) (eq-eqb n n refl)

has_other : (n v : ℕ) (ns : List ℕ) → has (n ∷ ns) v ≡ true → (v == n) ≡ false → has ns v ≡ true
has_other n v ns held other =
    elim (or_cases (n == v) (has ns v) held) [
      | inl same ↦ absurd (true≢false (sym same ∙ eqb_sym v n other))
      | inr rest ↦ rest
    ]

-- the first inner node is given back
pub drop_inner : (F : Fixed) (wanted leaves inner : List ℕ) (node : ℕ) → IsHolding F wanted leaves (node ∷ inner) → Drops (node ∷ inner) leaves inner leaves node
drop_inner F wanted leaves inner node is = record {
  held = or_left _ _ (has_first node inner);
  gone = or_from _ _ is.inner_once.0 (false_from_ne_true _ (λ leaf. true≢false (sym (is.leaves_are_leaves node leaf) ∙ is.inner_are_inner node (has_first node inner))));
  less = λ v held. elim (or_cases (has inner v) (has leaves v) held) [
    | inl e ↦ or_left _ _ (or_right (node == v) (has inner v) e)
    | inr e ↦ or_right _ _ e
  ];
  rest = λ v held other. elim (or_cases (has (node ∷ inner) v) (has leaves v) held) [
    | inl e ↦ or_left _ _ (has_other node v inner e other)
    | inr e ↦ or_right _ _ e
  ];
}

-- the first leaf is given back, where no inner node is held
pub drop_leaf : (F : Fixed) (wanted leaves : List ℕ) (node : ℕ) → IsHolding F wanted (node ∷ leaves) [] → Drops [] (node ∷ leaves) [] leaves node
drop_leaf F wanted leaves node is = record {
  held = has_first node leaves;
  gone = is.leaves_once.0;
  less = λ v held. or_right (node == v) (has leaves v) held;
  rest = λ v held other. has_other node v leaves held other;
}

-- what is held of the rest
pub holding_rest_inner : (F : Fixed) (wanted leaves inner : List ℕ) (node : ℕ) → IsHolding F wanted leaves (node ∷ inner) → IsHolding F wanted leaves inner
holding_rest_inner F wanted leaves inner node is = record {
  wanted_once = is.wanted_once;
  wanted_are_leaves = is.wanted_are_leaves;
  leaves_once = is.leaves_once;
  leaves_are_leaves = is.leaves_are_leaves;
  inner_once = is.inner_once.1;
  inner_are_inner = λ v held. is.inner_are_inner v (or_right (node == v) (has inner v) held);
}

pub holding_rest_leaf : (F : Fixed) (wanted leaves inner : List ℕ) (node : ℕ) → IsHolding F wanted (node ∷ leaves) inner → IsHolding F wanted leaves inner
holding_rest_leaf F wanted leaves inner node is = record {
  wanted_once = is.wanted_once;
  wanted_are_leaves = is.wanted_are_leaves;
  leaves_once = is.leaves_once.1;
  leaves_are_leaves = λ v held. is.leaves_are_leaves v (or_right (node == v) (has leaves v) held);
  inner_once = is.inner_once;
  inner_are_inner = is.inner_are_inner;
}

-- the word of a held node is the same at both stages, where both hold inner nodes to write or none does
pub word_at_stages : (F : Fixed) (i : ℕ) (stage other : Stage) (wanted : List ℕ) (node : ℕ) → is_writing stage ≡ is_writing other
    → held_word F i stage wanted node ≡ held_word F i other wanted node
word_at_stages F i stage other wanted node same = rw same refl

-- the word of a held leaf is the same at all stages
pub word_of_leaf : (F : Fixed) (i : ℕ) (stage other : Stage) (wanted : List ℕ) (node : ℕ) → is_leaf F node ≡ true
    → held_word F i stage wanted node ≡ held_word F i other wanted node
word_of_leaf F i stage other wanted node leaf = rw leaf refl
