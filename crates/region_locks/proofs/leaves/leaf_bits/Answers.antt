use Rattle.std.proofs.Common.{arith, sym, ◌∙◌, ap, subst, ℕ, Bool, ◌<◌, ◌≤◌, ◌^◌, ◌+◌, ◌-◌, if◌then◌else◌}
use Rattle.std.proofs.Math.Nat.{pow-le-pow_right}
use Rattle.areanode.specs.Trees.{leaf_node}
use Rattle.areanode.specs.declared.sizes.TheConstants.{MOST_LEAVES}
use Rattle.areanode.proofs.Words.{word_of-below, word_none, word_next}
use Rattle.core_steps.specs.Nodes.{has}
use Rattle.region_locks.proofs.leaves.leaf_bits.Goals as goal

pub with_top_bit-word-requires-clause-below : goal.with_top_bit-word-requires-clause-below
with_top_bit-word-requires-clause-below c = subst (λ (n : ℕ). n < 2 ^ c.loop-leaf.leaf) (sym c.loop-leaf.invariant) (word_of-below c.loop-leaf.leaf _)

pub loop-leaf-init : goal.loop-leaf-init
loop-leaf-init c = word_none _

pub loop-leaf-preserved : goal.loop-leaf-preserved
loop-leaf-preserved c =
    let test : ℕ → Bool = λ leaf. has c.args.nodes.now (leaf_node c.args.depth leaf) in
    c.with_top_bit-word.ensures
    ∙ ap (λ (b : Bool). (if b then 2 ^ c.loop-leaf.leaf else 0) + c.loop-leaf.word)
    (c.is_among.ensures ∙ ap (λ (n : ℕ). has c.args.nodes.now (n - 1 + c.loop-leaf.leaf)) c.count_leaves-count.ensures.value)
    ∙ ap (λ (n : ℕ). (if test c.loop-leaf.leaf then 2 ^ c.loop-leaf.leaf else 0) + n) c.loop-leaf.invariant
    ∙ sym (word_next c.loop-leaf.leaf test)

pub overflow_cast-result : goal.overflow_cast-result
overflow_cast-result c =
    let few : c.loop-leaf.leaf ≤ MOST_LEAVES = omega (arith, c.loop-leaf.auto.leaf-end, c.count_leaves-count.ensures.few) in
    let small = subst (λ (n : ℕ). n < 2 ^ c.loop-leaf.leaf) (sym c.loop-leaf.invariant) (word_of-below c.loop-leaf.leaf (λ leaf. has c.args.nodes.now (leaf_node c.args.depth leaf))) in
    let fits = pow-le-pow_right {n = 2} (omega arith) few in
    omega (arith, small, fits)
