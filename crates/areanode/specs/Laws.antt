-- What holds of every tree, whatever its depth.
use Rattle.std.specs.Prelude.{◌≡◌, ◌↔◌, ℕ, ◌+◌, ◌^◌, ◌<◌, ◌≤◌, true, Bool, List, All}
use Rattle.std.specs.List.{list_any}
use Rattle.arena_geo.specs.Bounds.{Bounds, IsOrdered}
use Rattle.arena_geo.specs.Boxes.{touches}
use Rattle.arena_geo.specs.Regions.{touches_region, is_inside}
use Rattle.areanode.specs.declared.sizes.TheConstants.{LEAST_DEPTH, MOST_DEPTH, MOST_LEAVES, MOST_NODES}
use Rattle.areanode.specs.Words.{word_of, has_bit}
use Rattle.areanode.specs.Cuts.{cut_of}
use Rattle.areanode.specs.Trees.{TreeView, leaf_node, node_of, has_leaf, region_has_leaf}
use Rattle.areanode.specs.Trees.{leaves_of, climb, is_over, visited_of}
use Rattle.areanode.specs.LeafAreas.{touches_flat, leaf_area, TouchesArena, ReachesSideOf}
use Rattle.areanode.specs.Sides.{IsCutInHalf, HasPartsAtCut, GoesToItsSide, IsOnItsSide, HasLeavesOnItsSide}

-- the depths of trees, and the most leaves and nodes, have these values
pub record SizesAreKnown : Type 0 where
  pub least_depth : LEAST_DEPTH ≡ 3
  pub most_depth : MOST_DEPTH ≡ 5
  pub most_leaves : MOST_LEAVES ≡ 32
  pub most_nodes : MOST_NODES ≡ 63

-- some number below n passes
pub record SomeBelow (n : ℕ) (test : ℕ → Bool) : Type 0 where
  pub number : ℕ
  pub below : number < n
  pub passes : test number ≡ true

-- a leaf that two boxes have
pub record CommonLeaf (tree : TreeView) (a b : Bounds) : Type 0 where
  pub leaf : ℕ
  pub below : leaf < 2 ^ tree.depth
  pub first : has_leaf tree a leaf ≡ true
  pub second : has_leaf tree b leaf ≡ true

-- a leaf that two regions have
pub record SharedLeaf (tree : TreeView) (region other : List Bounds) : Type 0 where
  pub leaf : ℕ
  pub below : leaf < 2 ^ tree.depth
  pub first : region_has_leaf tree region leaf ≡ true
  pub second : region_has_leaf tree other leaf ≡ true

-- an area is cut halfway on the longer of the axes x and y, and on y where neither is longer
abbrev pub AreasAreCutInHalf : Type 0
AreasAreCutInHalf = (area : Bounds) → IsCutInHalf area (cut_of area)

-- the parts of an area have exactly its points on their sides of the cut, and both have those on the cut
abbrev pub AreasHaveTheirParts : Type 0
AreasHaveTheirParts = (area : Bounds) → IsOrdered area → HasPartsAtCut area (cut_of area)

-- at each inner node of its way a box goes on to the child on its side of the cut, and stays where it meets the cut
abbrev pub BoxGoesToItsSide : Type 0
BoxGoesToItsSide = (levels node : ℕ) (area b : Bounds) → IsOrdered b → GoesToItsSide levels node area b

-- the node of a box is in the part on its side of the root's cut, and is the root where the box meets that cut
abbrev pub NodeIsOnItsSide : Type 0
NodeIsOnItsSide = (tree : TreeView) (b : Bounds) → 1 ≤ tree.depth → IsOrdered b → IsOnItsSide tree b

-- the leaves of a box are all on its side of the root's cut, and on both where it meets that cut
abbrev pub LeavesAreOnItsSide : Type 0
LeavesAreOnItsSide = (tree : TreeView) (b : Bounds) → 1 ≤ tree.depth → IsOrdered b → HasLeavesOnItsSide tree b

-- the node of a box is an ancestor of, or equal to, the node of each of its leaves
abbrev pub NodeIsOverLeaves : Type 0
NodeIsOverLeaves =
    (tree : TreeView) (b : Bounds) (leaf : ℕ) → has_leaf tree b leaf ≡ true
    → is_over tree.depth (node_of tree b) (leaf_node tree.depth leaf) ≡ true

-- two boxes with a common point share a leaf
abbrev pub TouchingBoxesShareALeaf : Type 0
TouchingBoxesShareALeaf =
    (tree : TreeView) (a b : Bounds) → IsOrdered a → IsOrdered b → touches a b ≡ true → CommonLeaf tree a b

-- where a box touches a box of the region, its node is visited for the region's leaves
abbrev pub TouchedNodeIsVisited : Type 0
TouchedNodeIsVisited =
    (tree : TreeView) (b : Bounds) (region : List Bounds) → IsOrdered b → All IsOrdered region
    → touches_region b region ≡ true → has_bit (visited_of tree.depth (leaves_of tree region)) (node_of tree b) ≡ true

-- a box has a leaf
abbrev pub BoxHasALeaf : Type 0
BoxHasALeaf = (tree : TreeView) (b : Bounds) → IsOrdered b → SomeBelow (2 ^ tree.depth) (has_leaf tree b)

-- where the node of a box is a leaf and the box touches a box of the region, that leaf is among the region's
abbrev pub TouchedLeafIsListed : Type 0
TouchedLeafIsListed =
    (tree : TreeView) (b : Bounds) (region : List Bounds) (leaf : ℕ) → IsOrdered b → All IsOrdered region
    → touches_region b region ≡ true → leaf < 2 ^ tree.depth → node_of tree b ≡ leaf_node tree.depth leaf
    → region_has_leaf tree region leaf ≡ true

-- where a box lies inside a region and touches another one, the two regions share a leaf
abbrev pub InsideAndTouchedShareALeaf : Type 0
InsideAndTouchedShareALeaf =
    (tree : TreeView) (b : Bounds) (region other : List Bounds) → All IsOrdered region → All IsOrdered other
    → is_inside b region ≡ true → touches_region b other ≡ true → SharedLeaf tree region other

-- a box that touches the arena has exactly the leaves whose areas it touches, seen from above and the edges counted
abbrev pub LeavesAreWhereTheBoxTouches : Type 0
LeavesAreWhereTheBoxTouches =
    (tree : TreeView) (b : Bounds) (leaf : ℕ) → IsOrdered tree.bounds → TouchesArena tree b → leaf < 2 ^ tree.depth
    → has_leaf tree b leaf ≡ touches_flat (leaf_area tree leaf) b

-- a box that touches the area of a leaf touches the arena, both seen from above
abbrev pub LeavesLieInTheArena : Type 0
LeavesLieInTheArena =
    (tree : TreeView) (b : Bounds) (leaf : ℕ) → IsOrdered tree.bounds → leaf < 2 ^ tree.depth
    → touches_flat (leaf_area tree leaf) b ≡ true → TouchesArena tree b

-- in the word of the leaves of a region, each box of which touches the arena, exactly those are set whose areas a box of
-- the region touches
abbrev pub RegionHasTheLeavesThatItTouches : Type 0
RegionHasTheLeavesThatItTouches =
    (tree : TreeView) (region : List Bounds) (leaf : ℕ) → IsOrdered tree.bounds → All (TouchesArena tree) region
    → leaf < 2 ^ tree.depth → has_bit (leaves_of tree region) leaf ≡ list_any (touches_flat (leaf_area tree leaf)) region

-- a leaf is one of a box's exactly where, at each cut above the leaf, the box has a point on the leaf's side or on the cut
abbrev pub LeavesAreReachedAtEachCut : Type 0
LeavesAreReachedAtEachCut =
    (tree : TreeView) (b : Bounds) (leaf : ℕ) → leaf < 2 ^ tree.depth
    → (has_leaf tree b leaf ≡ true)
    ↔ ((levels : ℕ) → levels < tree.depth → ReachesSideOf tree b (climb levels (leaf_node tree.depth leaf)))

-- the leaves have the numbers below 2 ^ depth
abbrev pub LeavesAreInRange : Type 0
LeavesAreInRange = (tree : TreeView) (b : Bounds) (leaf : ℕ) → has_leaf tree b leaf ≡ true → leaf < 2 ^ tree.depth

-- the node of a box is one of the tree's
abbrev pub NodeIsInRange : Type 0
NodeIsInRange = (tree : TreeView) (b : Bounds) → node_of tree b + 1 < 2 ^ (tree.depth + 1)

-- a leaf that is over a leaf is that leaf
abbrev pub LeafOverLeaf : Type 0
LeafOverLeaf =
    (depth leaf other : ℕ) → leaf < 2 ^ depth → other < 2 ^ depth
    → is_over depth (leaf_node depth leaf) (leaf_node depth other) ≡ true → leaf ≡ other

-- the bits of a word of n bits are the tests
abbrev pub WordHasItsBits : Type 0
WordHasItsBits = (n : ℕ) (test : ℕ → Bool) (i : ℕ) → i < n → has_bit (word_of n test) i ≡ test i

-- a word of n bits is below 2 ^ n
abbrev pub WordFits : Type 0
WordFits = (n : ℕ) (test : ℕ → Bool) → word_of n test < 2 ^ n
