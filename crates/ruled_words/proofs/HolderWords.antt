-- What the word of a held node says of who holds it.
use Rattle.std.proofs.Common.{◌≡◌, ℕ, suc, ◌+◌, ◌*◌, ◌/◌, ◌%◌, ◌^◌, ◌<◌, Bool, true, false, if◌then◌else◌, List, refl, sym, ap, ◌∙◌, inl, inr, subst, arith}
use Rattle.std.specs.Prelude.{◌==◌}
use Rattle.std.proofs.lemmas.Bool.{cases_Bool, cond-true, cond-false}
use Rattle.arena_geo.specs.Bounds.{Bounds}
use Rattle.core_steps.specs.declared.sizes.TheConstants.{TABLE_LEAVES, MOST_SEATS, NODE_HOLDERS}
use Rattle.areanode.specs.Words.{has_bit}
use Rattle.areanode.specs.Trees.{IsTreeDepth}
use Rattle.core_steps.specs.Nodes.{Fixed, is_leaf, leaf_nodes}
use Rattle.core_steps.specs.Points.{Stage, is_writing}
use Rattle.core_steps.specs.Held.{leaf_word}
use Rattle.ruled_words.specs.Laws.{HeldWordsNameTheirHolder}
use Rattle.ruled_words.proofs.LeafWords.{leaf_word_is}
use Rattle.ruled_words.proofs.Holders.{leaves_fit}

low_bits : (i mark : ℕ) → i < MOST_SEATS → suc (i + NODE_HOLDERS * mark) % NODE_HOLDERS ≡ i + 1
low_bits i mark small = omega (arith, small)

high_bits : (i mark : ℕ) → i < MOST_SEATS → suc (i + NODE_HOLDERS * mark) / NODE_HOLDERS ≡ mark
high_bits i mark small = omega (arith, small)

-- bit 8 is the lowest of the bits above the number
bit_above : (i mark : ℕ) → i < MOST_SEATS → has_bit (suc (i + NODE_HOLDERS * mark)) 8 ≡ (mark % 2 == 1)
bit_above i mark small = ap (λ (n : ℕ). n % 2 == 1) (high_bits i mark small)

one_if : (b : Bool) → ((if b then 1 else 0) % 2 == 1) ≡ b
one_if true = refl
one_if false = refl

word_fits : (i mark : ℕ) → i < MOST_SEATS → mark < 2 ^ TABLE_LEAVES → suc (i + NODE_HOLDERS * mark) < 2 ^ 64
word_fits i mark small low = omega (arith, small, low)

one_fits : (b : Bool) → (if b then 1 else 0) < 2 ^ TABLE_LEAVES
one_fits true = omega arith
one_fits false = omega arith

-- what is written above the number has a bit for each leaf at most
mark_fits : (F : Fixed) (stage : Stage) (region : List Bounds) (node : ℕ) → IsTreeDepth F.tree.depth
    → (if is_leaf F node then leaf_word F (leaf_nodes F region) else (if is_writing stage then 1 else 0)) < 2 ^ TABLE_LEAVES
mark_fits F stage region node depth =
    let leaves = leaf_word F (leaf_nodes F region) in
    let writing = if is_writing stage then 1 else 0 in
    elim (cases_Bool (is_leaf F node)) [
      | inl leaf ↦ subst (λ (n : ℕ). n < 2 ^ TABLE_LEAVES) (sym (cond-true (is_leaf F node) leaves writing leaf ∙ leaf_word_is F region)) (leaves_fit F region depth)
      | inr inner ↦ subst (λ (n : ℕ). n < 2 ^ TABLE_LEAVES) (sym (cond-false (is_leaf F node) leaves writing inner)) (one_fits (is_writing stage))
    ]

pub held_words_name_their_holder : HeldWordsNameTheirHolder
held_words_name_their_holder F i stage region node small depth =
    let leaves = leaf_word F (leaf_nodes F region) in
    let writing = if is_writing stage then 1 else 0 in
    let mark = if is_leaf F node then leaves else writing in
    record {
      number = low_bits i mark small;
      leaves = λ leaf. high_bits i mark small ∙ cond-true (is_leaf F node) leaves writing leaf ∙ leaf_word_is F region;
      writing = λ inner.
          bit_above i mark small
          ∙ ap (λ (n : ℕ). n % 2 == 1) (cond-false (is_leaf F node) leaves writing inner)
          ∙ one_if (is_writing stage);
      fits = word_fits i mark small (mark_fits F stage region node depth);
    }
