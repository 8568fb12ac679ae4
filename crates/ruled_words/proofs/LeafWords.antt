-- The word of the leaves of a region.
use Rattle.std.proofs.Common.{◌≡◌, ℕ, zero, suc, ◌+◌, ◌-◌, ◌^◌, ◌<◌, ◌≤◌, Bool, if◌then◌else◌, List, [], ◌∷◌, ◌++◌, map, refl, sym, ap, ◌∙◌, subst, inl, inr, arith}
use Rattle.std.specs.Prelude.{filter}
use Rattle.std.specs.List.{range_with_len}
use Rattle.std.proofs.lemmas.Bool.{cases_Bool}
use Rattle.std.proofs.lemmas.List.Elements.{filter-append}
use Rattle.arena_geo.specs.Bounds.{Bounds}
use Rattle.areanode.specs.Words.{has_bit, word_of}
use Rattle.areanode.specs.Trees.{IsTreeDepth, leaf_node, leaves_of, region_has_leaf}
use Rattle.areanode.specs.Depths.{sizes_of_depth}
use Rattle.areanode.proofs.Words.{word_has_its_bits, word_of-below}
use Rattle.core_steps.specs.Nodes.{Fixed, inner_nodes, leaf_nodes}
use Rattle.core_steps.specs.Held.{leaf_word, bits_of_leaves}
use Rattle.core_seats.proofs.ReadLists.{bits_more}
use Rattle.world_tree.proofs.Rounds.{range-more}

pub range_end : (n : ℕ) → range_with_len 0 (suc n) ≡ range_with_len 0 n ++ n ∷ []
range_end n = let same : 0 + n ≡ n = omega arith in range-more 0 n ∙ ap (λ (k : ℕ). range_with_len 0 n ++ k ∷ []) same

one_bit : (test : ℕ → Bool) (n : ℕ) → bits_of_leaves (filter test (n ∷ [])) ≡ (if test n then 2 ^ n else 0)
one_bit test n = elim (cases_Bool (test n)) [ inl e ↦ rw e (omega arith) | inr e ↦ rw e refl ]

-- the bits of the numbers that pass make the word of the test
bits_of_test : (n : ℕ) (test : ℕ → Bool) → bits_of_leaves (filter test (range_with_len 0 n)) ≡ word_of n test
unfolding word_of
bits_of_test zero test = refl
bits_of_test (suc n) test =
    let rest = bits_of_test n test in
    let one = one_bit test n in
    let all = ap (λ (xs : List ℕ). bits_of_leaves (filter test xs)) (range_end n) ∙ ap bits_of_leaves (filter-append test (range_with_len 0 n) (n ∷ []))
    ∙ bits_more (filter test (range_with_len 0 n)) (filter test (n ∷ [])) in
    omega (arith, rest, one, all)

-- a filter by tests that agree on the list
filter_same : (n : ℕ) (one two : ℕ → Bool) → ((i : ℕ) → i < n → one i ≡ two i) → filter one (range_with_len 0 n) ≡ filter two (range_with_len 0 n)
filter_same zero one two same = refl
filter_same (suc n) one two same =
    let rest = filter_same n one two (λ i below. same i (omega (arith, below))) in
    ap (filter one) (range_end n) ∙ filter-append one (range_with_len 0 n) (n ∷ [])
    ∙ ap (λ (xs : List ℕ). xs ++ filter one (n ∷ [])) rest
    ∙ ap (λ (b : Bool). filter two (range_with_len 0 n) ++ (if b then n ∷ [] else [])) (same n (omega arith))
    ∙ sym (ap (filter two) (range_end n) ∙ filter-append two (range_with_len 0 n) (n ∷ []))

back : (depth leaf : ℕ) → leaf_node depth leaf - (2 ^ depth - 1) ≡ leaf
back depth leaf = omega arith

all_back : (depth : ℕ) (xs : List ℕ) → map (λ node. node - (2 ^ depth - 1)) (map (leaf_node depth) xs) ≡ xs
all_back depth [] = refl
all_back depth (x ∷ xs) = let head = back depth x in let tail = all_back depth xs in cc

pub leaf_word_is : (F : Fixed) (region : List Bounds) → leaf_word F (leaf_nodes F region) ≡ leaves_of F.tree region
leaf_word_is F region =
    let n = 2 ^ F.tree.depth in
    ap bits_of_leaves (all_back F.tree.depth (filter (has_bit (leaves_of F.tree region)) (range_with_len 0 n)))
    ∙ ap bits_of_leaves (filter_same n (has_bit (leaves_of F.tree region)) (region_has_leaf F.tree region) (λ i below. word_has_its_bits n (region_has_leaf F.tree region) i below))
    ∙ bits_of_test n (region_has_leaf F.tree region)

-- it has a bit for each leaf at most
pub leaves_small : (F : Fixed) (region : List Bounds) (leaves : ℕ) → leaves ≡ leaves_of F.tree region → leaves < 2 ^ 2 ^ F.tree.depth
leaves_small F region leaves is =
    subst (λ (n : ℕ). n < 2 ^ 2 ^ F.tree.depth) (sym is) (word_of-below (2 ^ F.tree.depth) (region_has_leaf F.tree region))

-- the bits of leaves and of inner nodes are in one word
pub leaves_few : (F : Fixed) → IsTreeDepth F.tree.depth → 2 ^ F.tree.depth ≤ 64
leaves_few F depth = let most = (sizes_of_depth F.tree.depth depth).leaves in omega (arith, most)

pub inner_few : (F : Fixed) → IsTreeDepth F.tree.depth → inner_nodes F ≤ 64
inner_few F depth = let most = (sizes_of_depth F.tree.depth depth).leaves in omega (arith, most)
