-- The way up from a node, and the nodes above leaves.
use Rattle.std.proofs.Common.{◌≡◌, ℕ, ◌+◌, ◌-◌, ◌*◌, ◌/◌, ◌%◌, ◌^◌, ◌<◌, ◌≤◌, ◌==◌, Bool, true, false, ◌&&◌, ◌||◌, bit_and, bit_or, add-one, refl, ap, sym, ◌∙◌, arith}
use Rattle.std.proofs.lemmas.Nat.{one_shl}
use Rattle.std.proofs.lemmas.Nat.Bits.{shr_and_one}
use Rattle.std.proofs.lemmas.Bool.{eq-eqb, ne_eqb}
use Rattle.std.proofs.Math.Bool.{or_comm}
use Rattle.areanode.specs.Words.{any_below, word_of, has_bit}
use Rattle.areanode.specs.declared.sizes.TheConstants.{MOST_NODES}
use Rattle.areanode.specs.Trees.{inner_in, nodes_in, leaf_node, climb, is_over}
use Rattle.areanode.proofs.Words.{word_of-same, word_of-or, word_of-one, word_of-none}

or_with_false : (b : Bool) → b ≡ (b || false)
or_with_false true = refl
or_with_false false = refl

any_below_more : (n : ℕ) (test : ℕ → Bool) → (any_below n test || test n) ≡ any_below (n + 1) test
unfolding any_below
any_below_more n test = rw (add-one n) (or_comm (any_below n test) (test n))

pub climb_start : (node : ℕ) → node ≡ climb 0 node
unfolding climb
climb_start node = refl

pub climb_more : (steps start node before : ℕ) → node ≡ climb steps start → before ≡ node - 1
    → before / 2 ≡ climb (steps + 1) start
unfolding climb
climb_more steps start node before e f = rw (f, e, add-one steps) refl

only_itself : (start node : ℕ) → (start == node) ≡ any_below (0 + 1) (λ steps. climb steps start == node)
unfolding any_below climb
only_itself start node = or_with_false (start == node)

pub path_start : (n start : ℕ) → n ≤ MOST_NODES → start < n
    → 1 * 2 ^ start % 18446744073709551616 ≡ word_of n (λ node. any_below (0 + 1) (λ steps. climb steps start == node))
path_start n start few below =
    one_shl start 64 (omega (arith, few, below)) ∙ word_of-one n start below ∙ word_of-same n _ _ (λ node _. only_itself start node)

pub path_more : (n steps start path node : ℕ) → n ≤ MOST_NODES → node < n
    → path ≡ word_of n (λ other. any_below (steps + 1) (λ s. climb s start == other)) → node ≡ climb (steps + 1) start
    → bit_or path (1 * 2 ^ node % 18446744073709551616) ≡ word_of n (λ other. any_below (steps + 1 + 1) (λ s. climb s start == other))
path_more n steps start path node few below e f =
    rw (e, one_shl node 64 (omega (arith, few, below)), word_of-one n node below) (word_of-or n _ _ ∙ word_of-same n _ _ (λ other _. rw f (any_below_more (steps + 1) (λ s. climb s start == other))))

pub visited_start : (n : ℕ) (test : ℕ → ℕ → Bool) → 0 ≡ word_of n (λ node. any_below 0 (test node))
unfolding any_below
visited_start n test = sym (word_of-none n)

-- the node is over some of the first leaves
abbrev pub is_over_some : ℕ → ℕ → ℕ → ℕ → Bool
is_over_some depth leaves leaf node = any_below leaf (λ k. has_bit leaves k && is_over depth node (leaf_node depth k))

more_at : (depth leaves leaf node : ℕ) → has_bit leaves leaf ≡ true
    → (is_over_some depth leaves leaf node || is_over depth node (leaf_node depth leaf)) ≡ is_over_some depth leaves (leaf + 1) node
more_at depth leaves leaf node is =
    let more = any_below_more leaf (λ k. has_bit leaves k && is_over depth node (leaf_node depth k)) in
    rw is at more

same_at : (depth leaves leaf node : ℕ) → has_bit leaves leaf ≡ false
    → is_over_some depth leaves leaf node ≡ is_over_some depth leaves (leaf + 1) node
same_at depth leaves leaf node is =
    let more = any_below_more leaf (λ k. has_bit leaves k && is_over depth node (leaf_node depth k)) in
    or_with_false _ ∙ rw is at more

pub visited_more : (depth leaves leaf nodes path : ℕ) → has_bit leaves leaf ≡ true
    → nodes ≡ word_of (nodes_in depth) (is_over_some depth leaves leaf)
    → path ≡ word_of (nodes_in depth) (λ node. is_over depth node (leaf_node depth leaf))
    → bit_or nodes path ≡ word_of (nodes_in depth) (is_over_some depth leaves (leaf + 1))
visited_more depth leaves leaf nodes path is e f =
    rw (e, f) (word_of-or (nodes_in depth) _ _ ∙ word_of-same (nodes_in depth) _ _ (λ node _. more_at depth leaves leaf node is))

-- the path is that of the leaf's node
pub path_is : (depth first leaf path : ℕ) → first ≡ inner_in depth
    → path ≡ word_of (nodes_in depth) (λ node. is_over depth node (first + leaf))
    → path ≡ word_of (nodes_in depth) (λ node. is_over depth node (leaf_node depth leaf))
path_is depth first leaf path is e = e ∙ ap (λ k. word_of (nodes_in depth) (λ node. is_over depth node (k + leaf))) is

pub visited_same : (depth leaves leaf nodes : ℕ) → has_bit leaves leaf ≡ false
    → nodes ≡ word_of (nodes_in depth) (is_over_some depth leaves leaf)
    → nodes ≡ word_of (nodes_in depth) (is_over_some depth leaves (leaf + 1))
visited_same depth leaves leaf nodes is e =
    e ∙ word_of-same (nodes_in depth) _ _ (λ node _. same_at depth leaves leaf node is)

-- the code's test of a bit
pub tested : (leaves leaf : ℕ) → bit_and (leaves / 2 ^ leaf) 1 ≡ 1 → has_bit leaves leaf ≡ true
tested leaves leaf is = eq-eqb _ _ (sym (shr_and_one leaves leaf) ∙ is)

pub not_tested : (leaves leaf : ℕ) → (bit_and (leaves / 2 ^ leaf) 1 ≡ 1 → ⊥) → has_bit leaves leaf ≡ false
not_tested leaves leaf isnt = ne_eqb _ _ (λ is. isnt (shr_and_one leaves leaf ∙ is))
