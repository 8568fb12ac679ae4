-- The nodes of a plan come in the order in which nodes are taken.
use Rattle.std.proofs.Common.{◌≡◌, ℕ, zero, suc, ◌+◌, ◌^◌, ◌<◌, List, [], ◌∷◌, ◌++◌, map, refl, sym, ◌∙◌, subst, inl, inr, arith}
use Rattle.std.specs.Prelude.{◌-◌, ◌==◌, true, false, filter, slice_index}
use Rattle.std.specs.List.{range_with_len}
use Rattle.std.specs.List.Sorted.{IsStrictlyIncreasing}
use Rattle.std.proofs.lemmas.Bool.{eq-eqb, or_cases, or_left, or_right, leb-true, le-leb, lt-leb}
use Rattle.arena_geo.specs.Bounds.{Bounds}
use Rattle.areanode.specs.Words.{has_bit}
use Rattle.areanode.specs.Trees.{leaves_of, visited_of}
use Rattle.core_steps.specs.Nodes.{Fixed, has, is_leaf, inner_nodes, leaf_nodes, inner_visited, taking_order}
use Rattle.core_steps.specs.Laws.{PlansComeInOrder}
use Rattle.core_steps.proofs.Lists.{has_append, has_filter, has_range, has_shifted}
use Rattle.core_steps.proofs.TreeNodes.{leaf_below}
use Rattle.core_steps.proofs.Waiting.{Rises, rises_range, rises_filter, leaf_nodes_rise, leaf_first, place_of_leaf, place_of_inner}

-- each number of the list has a lesser place than those after it
abbrev RisesBy : (ℕ → ℕ) → List ℕ → Type 0
RisesBy place [] = Unit {0}
RisesBy place (x ∷ xs) = ((v : ℕ) → has xs v ≡ true → place x < place v) × RisesBy place xs

-- the first of a list is in it
has_head : (x : ℕ) (xs : List ℕ) → has (x ∷ xs) x ≡ true
has_head x xs = or_left _ _ (eq-eqb x x refl)

-- numbers that rise have rising places, where the places rise with the numbers of the list
rises_by : (place : ℕ → ℕ) (xs : List ℕ) → Rises xs → ((a b : ℕ) → has xs a ≡ true → has xs b ≡ true → a < b → place a < place b) → RisesBy place xs
rises_by place [] is up = tt
rises_by place (x ∷ xs) is up = (
  (λ v there. up x v (has_head x xs) (or_right (x == v) _ there) (is.0 v there)),
  rises_by place xs is.1 (λ a b a_there b_there less. up a b (or_right (x == a) _ a_there) (or_right (x == b) _ b_there) less),
)

-- a list whose numbers all come before those of another
rises_through : (place : ℕ → ℕ) (xs ys : List ℕ) → RisesBy place xs → RisesBy place ys → ((a b : ℕ) → has xs a ≡ true → has ys b ≡ true → place a < place b)
    → RisesBy place (xs ++ ys)
rises_through place [] ys first then before = then
rises_through place (x ∷ xs) ys first then before = (
  (λ v there. elim (or_cases (has xs v) (has ys v) (sym (has_append xs ys v) ∙ there)) [
    | inl early ↦ first.0 v early
    | inr late ↦ before x v (has_head x xs) late
  ]),
  rises_through place xs ys first.1 then (λ a b a_there b_there. before a b (or_right (x == a) _ a_there) b_there),
)

increasing : (place : ℕ → ℕ) (xs : List ℕ) → RisesBy place xs → IsStrictlyIncreasing (map place xs)
increasing place [] is k more = absurd (omega arith)
increasing place (x ∷ []) is k more = absurd (omega arith)
increasing place (x ∷ y ∷ xs) is zero more = is.0 y (has_head y xs)
increasing place (x ∷ y ∷ xs) is (suc k) more =
    let next : suc (k + 1) ≡ suc k + 1 = omega arith in
    subst (λ (n : ℕ). slice_index (map place (y ∷ xs)) k < slice_index (map place (x ∷ y ∷ xs)) n) next (increasing place (y ∷ xs) is.1 k (omega arith))

-- the leaves of a region are leaves
leaf_is_leaf : (F : Fixed) (region : List Bounds) (v : ℕ) → has (leaf_nodes F region) v ≡ true → is_leaf F v ≡ true
leaf_is_leaf F region v there =
    let s = has_shifted (2 ^ F.tree.depth - 1) (filter (has_bit (leaves_of F.tree region)) (range_with_len 0 (2 ^ F.tree.depth))) v there in
    le-leb (inner_nodes F) v (omega (arith, s.is))

-- and the inner nodes that are visited are none
visited_is_inner : (F : Fixed) (region : List Bounds) (v : ℕ) → has (inner_visited F region) v ≡ true → is_leaf F v ≡ false
visited_is_inner F region v there =
    let kept = has_filter (has_bit (visited_of F.tree.depth (leaves_of F.tree region))) (range_with_len 0 (inner_nodes F)) v there in
    let range = has_range 0 (inner_nodes F) v kept.listed in
    lt-leb (inner_nodes F) v (omega (arith, range.most))

pub plans_come_in_order : PlansComeInOrder
plans_come_in_order F region =
    let leaves = leaf_nodes F region in
    let inner = inner_visited F region in
    increasing (taking_order F) (leaves ++ inner) (rises_through (taking_order F) leaves inner
    (rises_by (taking_order F) leaves (leaf_nodes_rise F region) (λ a b a_there b_there less.
    let first = place_of_leaf F a (leaf_is_leaf F region a a_there) in
    let second = place_of_leaf F b (leaf_is_leaf F region b b_there) in
    let least = leb-true (inner_nodes F) a (leaf_is_leaf F region a a_there) in
    rw (first, second) (omega arith)))
    (rises_by (taking_order F) inner (rises_filter (has_bit (visited_of F.tree.depth (leaves_of F.tree region))) (range_with_len 0 (inner_nodes F)) (rises_range 0 (inner_nodes F))) (λ a b a_there b_there less.
    let first = place_of_inner F a (visited_is_inner F region a a_there) in
    let second = place_of_inner F b (visited_is_inner F region b b_there) in
    rw (first, second) (omega arith)))
    (λ a b a_there b_there. leaf_first F a b (leaf_is_leaf F region a a_there) (leaf_below F region a a_there) (visited_is_inner F region b b_there)))
