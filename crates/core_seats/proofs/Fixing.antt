-- What doesn't change of a tree of any depth: the nodes of leaves, the inner nodes over them, the word of leaves.
use Rattle.std.proofs.Common.{◌≡◌, ℕ, ◌+◌, ◌^◌, ◌-◌, map, ap, ◌∙◌, arith}
use Rattle.std.specs.Prelude.{filter, List}
use Rattle.std.specs.List.{range_with_len}
use Rattle.arena_geo.specs.Bounds.{Bounds}
use Rattle.areanode.specs.Words.{has_bit}
use Rattle.areanode.specs.Trees.{IsTreeDepth, leaf_node, leaves_of, visited_of}
use Rattle.areanode.specs.Depths.{sizes_of_depth}
use Rattle.core_steps.specs.Nodes.{Fixed, inner_nodes, leaf_nodes, inner_visited}

pub leaf_nodes_are : (F : Fixed) (first : ℕ) (region : List Bounds) (word : ℕ) (nodes : List ℕ) → IsTreeDepth F.tree.depth → first ≡ inner_nodes F → word ≡ leaves_of F.tree region
    → nodes ≡ map (λ (leaf : ℕ). first + leaf) (filter (has_bit word) (range_with_len 0 (first + 1))) → nodes ≡ leaf_nodes F region
leaf_nodes_are F first region word nodes depth leaf_is is made =
    let sizes = sizes_of_depth F.tree.depth depth in
    let some = sizes.some in
    let count : inner_nodes F + 1 ≡ 2 ^ F.tree.depth = omega (arith, some) in
    made ∙ ap (λ (w : ℕ). map (λ (leaf : ℕ). first + leaf) (filter (has_bit w) (range_with_len 0 (first + 1)))) is
    ∙ ap (λ (n : ℕ). map (λ (leaf : ℕ). n + leaf) (filter (has_bit (leaves_of F.tree region)) (range_with_len 0 (n + 1)))) leaf_is
    ∙ ap (λ (n : ℕ). map (leaf_node F.tree.depth) (filter (has_bit (leaves_of F.tree region)) (range_with_len 0 n))) count

pub inner_visited_are : (F : Fixed) (region : List Bounds) (word seen : ℕ) (nodes : List ℕ) → word ≡ leaves_of F.tree region
    → seen ≡ visited_of F.tree.depth word
    → nodes ≡ filter (has_bit seen) (range_with_len 0 (2 ^ F.tree.depth - 1)) → nodes ≡ inner_visited F region
inner_visited_are F region word seen nodes is visited made =
    made ∙ ap (λ (w : ℕ). filter (has_bit w) (range_with_len 0 (2 ^ F.tree.depth - 1))) visited
    ∙ ap (λ (w : ℕ). filter (has_bit (visited_of F.tree.depth w)) (range_with_len 0 (2 ^ F.tree.depth - 1))) is
