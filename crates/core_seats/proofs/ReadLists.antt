-- The word of the leaves of nodes.
use Rattle.std.proofs.Common.{◌≡◌, ℕ, ◌+◌, ◌*◌, ◌<◌, ◌≤◌, List, [], ◌∷◌, ◌++◌, length, take, get_or, map, ap, arith}
use Rattle.std.specs.Prelude.{All, ◌^◌, ◌%◌, ◌-◌}
use Rattle.std.proofs.lemmas.Nat.{pow_below}
use Rattle.std.proofs.lemmas.List.{map-append, take_more}
use Rattle.std.proofs.lemmas.List.Elements.{All-get_or}
use Rattle.areanode.specs.declared.sizes.TheConstants.{MOST_LEAVES}
use Rattle.core_steps.specs.Held.{bits_of_leaves}

pub bits_more : (xs ys : List ℕ) → bits_of_leaves (xs ++ ys) ≡ bits_of_leaves xs + bits_of_leaves ys
bits_more [] ys = omega arith
bits_more (x ∷ xs) ys = omega (arith, bits_more xs ys)

low_leaf : (s : ℕ) → s < MOST_LEAVES → 1 * 2 ^ s % 2 ^ 64 ≡ 2 ^ s
low_leaf s low = let small = pow_below s MOST_LEAVES low in omega arith

-- the leaf of a node of the tree
leaf_low : (first : ℕ) (nodes : List ℕ) (k s : ℕ) → k < length nodes → All (λ n. n < first + MOST_LEAVES) nodes → s ≡ get_or nodes k 0 - first → s < MOST_LEAVES
leaf_low first nodes k s below all is =
    let small : get_or nodes k 0 < first + MOST_LEAVES = All-get_or (λ n. n < first + MOST_LEAVES) nodes k 0 below all in
    omega (arith, is, small)

pub leaf_bits : (first : ℕ) (nodes : List ℕ) (k word s : ℕ) → k < length nodes → All (λ n. n < first + MOST_LEAVES) nodes → s ≡ get_or nodes k 0 - first
    → word ≡ bits_of_leaves (map (λ n. n - first) (take k nodes))
    → word + 1 * 2 ^ s % 2 ^ 64 ≡ bits_of_leaves (map (λ n. n - first) (take (k + 1) nodes))
leaf_bits first nodes k word s below all is made =
    let low = low_leaf s (leaf_low first nodes k s below all is) in
    let more = ap (λ ns. bits_of_leaves (map (λ n. n - first) ns)) (take_more nodes k 0 below) in
    let split = ap bits_of_leaves (map-append (λ n. n - first) (take k nodes) (get_or nodes k 0 ∷ [])) in
    let two = bits_more (map (λ n. n - first) (take k nodes)) ((get_or nodes k 0 - first) ∷ []) in
    let last = ap (λ n. 2 ^ n) is in
    omega (arith, low, more, split, two, last, made)

pub leaf_small : (first : ℕ) (nodes : List ℕ) (k word s : ℕ) → k < length nodes → All (λ n. n < first + MOST_LEAVES) nodes → s ≡ get_or nodes k 0 - first
    → word ≤ 2 ^ MOST_LEAVES * k → word + 1 * 2 ^ s % 2 ^ 64 ≤ 2 ^ MOST_LEAVES * (k + 1)
leaf_small first nodes k word s below all is small =
    let low = leaf_low first nodes k s below all is in
    let bit = low_leaf s low in
    let fits = pow_below s MOST_LEAVES low in
    omega (arith, bit, fits)
