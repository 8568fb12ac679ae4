-- A leaf is a box's where the box reaches the leaf's side of each cut above it.
use Rattle.std.proofs.Common.{◌≡◌, ℕ, zero, suc, ◌+◌, ◌*◌, ◌^◌, ◌<◌, ◌≤◌, ◌≤ℤ◌, true, inl, inr, refl, ap, sym, subst, ◌∙◌, arith}
use Rattle.std.proofs.Math.Nat.{pow-suc}
use Rattle.std.proofs.lemmas.Int.{ints}
use Rattle.std.proofs.lemmas.Bool.{cases_eq, eq-eqb, or_cases, or_left, or_right, and_from}
use Rattle.arena_geo.specs.Bounds.{Bounds}
use Rattle.areanode.specs.declared.cut.Cut.{Cut}
use Rattle.areanode.specs.Cuts.{low_on, high_on, cut_of, part_above, part_below, reaches_above, reaches_below}
use Rattle.areanode.specs.Trees.{TreeView, child_above, child_below, parent, leaf_node, reaches, climb}
use Rattle.areanode.specs.Areas.{area_of}
use Rattle.areanode.specs.LeafAreas.{cut_above, ReachesSideOf}
use Rattle.areanode.specs.Laws.{LeavesAreReachedAtEachCut}
use Rattle.areanode.proofs.Nodes.{parent-child_above, parent-child_below, climb_back}
use Rattle.areanode.proofs.LeafAreas.{both_pass, area_of-above, area_of-below, IsUnder, under_child, leaf_is_under}

-- ---- the areas of nodes, from any level that is deep enough
area_of-root : (steps : ℕ) (whole : Bounds) → area_of steps whole 0 ≡ whole
unfolding area_of
area_of-root zero whole = refl
area_of-root (suc steps) whole = refl

parent_is_near : (node p : ℕ) → (node ≡ 0 → ⊥) → node + 2 ≤ p * 2 * 2 → parent node + 2 ≤ p * 2
parent_is_near node p some near = omega (arith, some, near)

-- one level more to begin from gives the same area
area_of-more : (steps : ℕ) (whole : Bounds) (node : ℕ) → node + 2 ≤ 2 ^ steps * 2
    → area_of (suc steps) whole node ≡ area_of steps whole node
unfolding area_of
area_of-more zero whole node near =
    let root : node ≡ 0 = omega (arith, near) in
    rw root refl
area_of-more (suc n) whole node near =
    let twice : node + 2 ≤ 2 ^ n * 2 * 2 = rw (pow-suc 2 n) at near in
    elim (cases_eq node 0) [
      | inl root ↦ rw root (area_of-root (suc (suc n)) whole ∙ sym (area_of-root (suc n) whole))
      | inr some ↦ rw (area_of-more n whole (parent node) (parent_is_near node (2 ^ n) some twice)) refl
    ]

area_of-deeper : (depth steps levels : ℕ) (whole : Bounds) (node : ℕ) → steps + levels ≡ depth → node + 2 ≤ 2 ^ steps * 2
    → area_of depth whole node ≡ area_of steps whole node
area_of-deeper depth steps zero whole node sum near =
    let all : depth ≡ steps = omega (arith, sum) in
    ap (λ n. area_of n whole node) all
area_of-deeper depth steps (suc levels) whole node sum near =
    let next : suc steps + levels ≡ depth = omega (arith, sum) in
    let wide : node + 2 ≤ 2 ^ suc steps * 2 = omega (arith, pow-suc 2 steps, near) in
    area_of-deeper depth (suc steps) levels whole node next wide ∙ area_of-more steps whole node near

-- ---- the side of a child
not_below : (node : ℕ) → child_above node ≡ child_below (parent (child_above node)) → ⊥
not_below node same = omega (arith, same)

not_above : (node : ℕ) → child_below node ≡ child_above (parent (child_below node)) → ⊥
not_above node same = omega (arith, same)

high_enough : (cut : Cut) (b : Bounds) → reaches_above b cut ≡ true → cut.dist ≤ℤ high_on cut.axis b
high_enough cut b h = grind (arith, ints)

low_enough : (cut : Cut) (b : Bounds) → reaches_below b cut ≡ true → low_on cut.axis b ≤ℤ cut.dist
low_enough cut b h = grind (arith, ints)

test_above : (cut : Cut) (b : Bounds) → cut.dist ≤ℤ high_on cut.axis b → reaches_above b cut ≡ true
test_above cut b h = grind (arith, ints)

test_below : (cut : Cut) (b : Bounds) → low_on cut.axis b ≤ℤ cut.dist → reaches_below b cut ≡ true
test_below cut b h = grind (arith, ints)

-- what the box reaches beyond a cut, and before it
abbrev Above : Bounds → Cut → Type 0
Above b cut = cut.dist ≤ℤ high_on cut.axis b

abbrev Below : Bounds → Cut → Type 0
Below b cut = low_on cut.axis b ≤ℤ cut.dist

cut_of_child : (tree : TreeView) (node child : ℕ) (area : Bounds) → parent child ≡ node
    → area_of tree.depth tree.bounds node ≡ area → cut_above tree child ≡ cut_of area
cut_of_child tree node child area up is = rw (up, is) refl

side_above : (tree : TreeView) (b : Bounds) (node : ℕ) (area : Bounds) → area_of tree.depth tree.bounds node ≡ area
    → reaches_above b (cut_of area) ≡ true → ReachesSideOf tree b (child_above node)
side_above tree b node area is h =
    let cut = cut_of_child tree node (child_above node) area (parent-child_above node) is in
    record { above = λ _. subst (Above b) (sym cut) (high_enough (cut_of area) b h); below = λ same. absurd (not_below node same) }

side_below : (tree : TreeView) (b : Bounds) (node : ℕ) (area : Bounds) → area_of tree.depth tree.bounds node ≡ area
    → reaches_below b (cut_of area) ≡ true → ReachesSideOf tree b (child_below node)
side_below tree b node area is h =
    let cut = cut_of_child tree node (child_below node) area (parent-child_below node) is in
    record { above = λ same. absurd (not_above node same); below = λ _. subst (Below b) (sym cut) (low_enough (cut_of area) b h) }

above_of_side : (tree : TreeView) (b : Bounds) (node : ℕ) (area : Bounds) → area_of tree.depth tree.bounds node ≡ area
    → ReachesSideOf tree b (child_above node) → reaches_above b (cut_of area) ≡ true
above_of_side tree b node area is side =
    let cut = cut_of_child tree node (child_above node) area (parent-child_above node) is in
    let own : child_above node ≡ child_above (parent (child_above node)) = ap child_above (sym (parent-child_above node)) in
    test_above (cut_of area) b (subst (Above b) cut (side.above own))

below_of_side : (tree : TreeView) (b : Bounds) (node : ℕ) (area : Bounds) → area_of tree.depth tree.bounds node ≡ area
    → ReachesSideOf tree b (child_below node) → reaches_below b (cut_of area) ≡ true
below_of_side tree b node area is side =
    let cut = cut_of_child tree node (child_below node) area (parent-child_below node) is in
    let own : child_below node ≡ child_below (parent (child_below node)) = ap child_below (sym (parent-child_below node)) in
    test_below (cut_of area) b (subst (Below b) cut (side.below own))

-- ---- the way to a leaf
-- where a node lies on the way down
record IsOnWay (depth steps levels node : ℕ) : Type 0 where
  sum : steps + levels ≡ depth
  near : node + 2 ≤ 2 ^ steps * 2

way_above : (depth steps levels node : ℕ) → IsOnWay depth steps (suc levels) node
    → IsOnWay depth (suc steps) levels (child_above node)
way_above depth steps levels node way = record { sum = omega (arith, way.sum); near = omega (arith, way.near, pow-suc 2 steps) }

way_below : (depth steps levels node : ℕ) → IsOnWay depth steps (suc levels) node
    → IsOnWay depth (suc steps) levels (child_below node)
way_below depth steps levels node way = record { sum = omega (arith, way.sum); near = omega (arith, way.near, pow-suc 2 steps) }

-- the box reaches the side of each of this many nodes from an end up
abbrev ReachesSides : TreeView → Bounds → ℕ → ℕ → Type 0
ReachesSides tree b end levels = (up : ℕ) → up < levels → ReachesSideOf tree b (climb up end)

one_side_more : (tree : TreeView) (b : Bounds) (end levels child : ℕ) → climb levels end ≡ child
    → ReachesSideOf tree b child → ReachesSides tree b end levels → ReachesSides tree b end (suc levels)
one_side_more tree b end levels child back side sides up below =
    elim (cases_eq up levels) [
      | inl last ↦ rw (last, back) side
      | inr other ↦ sides up (omega (arith, other, below))
    ]

sides_of_reached : (tree : TreeView) (steps levels node : ℕ) (b : Bounds) (end : ℕ)
    → IsOnWay tree.depth steps levels node → reaches levels node (area_of steps tree.bounds node) b end ≡ true
    → ReachesSides tree b end levels
unfolding reaches
sides_of_reached tree steps zero node b end way h = λ up below. absurd (omega (arith, below))
sides_of_reached tree steps (suc levels) node b end way h =
    let area = area_of steps tree.bounds node in
    let same = area_of-deeper tree.depth steps (suc levels) tree.bounds node way.sum way.near in
    elim (or_cases _ _ h) [
      | inl up ↦
          let both = both_pass _ _ up in
          let is = area_of-above steps tree.bounds node in
          let more = sides_of_reached tree (suc steps) levels (child_above node) b end (way_above _ steps levels node way) (rw is both.second) in
          let back = climb_back levels (child_above node) (part_above area) b end both.second in
          one_side_more tree b end levels (child_above node) back (side_above tree b node area same both.first) more
      | inr down ↦
          let both = both_pass _ _ down in
          let is = area_of-below steps tree.bounds node in
          let more = sides_of_reached tree (suc steps) levels (child_below node) b end (way_below _ steps levels node way) (rw is both.second) in
          let back = climb_back levels (child_below node) (part_below area) b end both.second in
          one_side_more tree b end levels (child_below node) back (side_below tree b node area same both.first) more
    ]

fewer_sides : (tree : TreeView) (b : Bounds) (end levels : ℕ) → ReachesSides tree b end (suc levels)
    → ReachesSides tree b end levels
fewer_sides tree b end levels sides = λ up below. sides up (omega (arith, below))

last_side : (tree : TreeView) (b : Bounds) (end levels child : ℕ) → climb levels end ≡ child
    → ReachesSides tree b end (suc levels) → ReachesSideOf tree b child
last_side tree b end levels child back sides = rw back at (sides levels (omega arith))

reached_by_sides : (tree : TreeView) (steps levels node : ℕ) (b : Bounds) (end : ℕ)
    → IsOnWay tree.depth steps levels node → IsUnder levels node end → ReachesSides tree b end levels
    → reaches levels node (area_of steps tree.bounds node) b end ≡ true
unfolding reaches
reached_by_sides tree steps zero node b end way under sides =
    let same : node ≡ end = omega (arith, under.least, under.most) in
    eq-eqb node end same
reached_by_sides tree steps (suc levels) node b end way under sides =
    let area = area_of steps tree.bounds node in
    let same = area_of-deeper tree.depth steps (suc levels) tree.bounds node way.sum way.near in
    let fewer = fewer_sides tree b end levels sides in
    elim (under_child levels node end under) [
      | inl up ↦
          let is = area_of-above steps tree.bounds node in
          let more : reaches levels (child_above node) (part_above area) b end ≡ true = rw is at (reached_by_sides tree (suc steps) levels (child_above node) b end (way_above _ steps levels node way) up fewer) in
          let back = climb_back levels (child_above node) (part_above area) b end more in
          or_left _ _ (and_from _ _ (above_of_side tree b node area same (last_side tree b end levels (child_above node) back sides)) more)
      | inr down ↦
          let is = area_of-below steps tree.bounds node in
          let more : reaches levels (child_below node) (part_below area) b end ≡ true = rw is at (reached_by_sides tree (suc steps) levels (child_below node) b end (way_below _ steps levels node way) down fewer) in
          let back = climb_back levels (child_below node) (part_below area) b end more in
          or_right _ _ (and_from _ _ (below_of_side tree b node area same (last_side tree b end levels (child_below node) back sides)) more)
    ]

pub leaves_are_reached_at_each_cut : LeavesAreReachedAtEachCut
unfolding area_of
leaves_are_reached_at_each_cut tree b leaf below =
    let end = leaf_node tree.depth leaf in
    let way : IsOnWay tree.depth 0 tree.depth 0 = record { sum = omega arith; near = omega arith } in (
      λ has. sides_of_reached tree 0 tree.depth 0 b end way has,
      λ sides. reached_by_sides tree 0 tree.depth 0 b end way (leaf_is_under tree.depth leaf below) sides,
    )
