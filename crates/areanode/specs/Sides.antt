-- On which side of a cut a box is, and what follows for its node and its leaves.
use Rattle.std.specs.Prelude.{◌≡◌, ◌↔◌, ℕ, suc, true, ℤ, pos, ◌+ℤ◌, ◌-ℤ◌, ◌≤ℤ◌, ◌<ℤ◌}
use Rattle.arena_geo.specs.declared.vec3.Vec3.{Vec3}
use Rattle.arena_geo.specs.Bounds.{Bounds}
use Rattle.arena_geo.specs.Laws.{IsPointOf}
use Rattle.areanode.specs.declared.cut.Axis.{Axis}
use Rattle.areanode.specs.declared.cut.Axis.TheVariants.{X, Y}
use Rattle.areanode.specs.declared.cut.Cut.{Cut}
use Rattle.areanode.specs.Cuts.{low_on, high_on, length_on, cut_of, part_above, part_below}
use Rattle.areanode.specs.Trees.{TreeView, child_above, child_below, leaf_node, node_from, node_of, has_leaf, is_over}

-- the box begins beyond the cut
abbrev pub IsAbove : Bounds → Cut → Type 0
IsAbove b cut = cut.dist <ℤ low_on cut.axis b

-- the box ends before the cut
abbrev pub IsBelow : Bounds → Cut → Type 0
IsBelow b cut = high_on cut.axis b <ℤ cut.dist

-- the box has a point on the cut
pub record MeetsCut (b : Bounds) (cut : Cut) : Type 0 where
  pub from : low_on cut.axis b ≤ℤ cut.dist
  pub to : cut.dist ≤ℤ high_on cut.axis b

-- the axis is the longer one, else y, and on it the area reaches as far beyond the cut as before it, or farther by 1
pub record IsCutInHalf (area : Bounds) (cut : Cut) : Type 0 where
  pub from_x : length_on X area ≤ℤ length_on cut.axis area
  pub from_y : length_on Y area ≤ℤ length_on cut.axis area
  pub tie : length_on X area ≡ length_on Y area → cut.axis ≡ Y
  pub least : (cut.dist -ℤ low_on cut.axis area) ≤ℤ (high_on cut.axis area -ℤ cut.dist)
  pub most : (high_on cut.axis area -ℤ cut.dist) ≤ℤ (cut.dist -ℤ low_on cut.axis area +ℤ pos 1)

-- the coordinate of a point on an axis
abbrev pub coordinate_on : Axis → Vec3 → ℤ
coordinate_on X p = p.x
coordinate_on Y p = p.y

-- the point is of the area, and lies beyond the cut or on it
pub record IsPointAbove (area : Bounds) (cut : Cut) (p : Vec3) : Type 0 where
  pub within : IsPointOf area p
  pub beyond : cut.dist ≤ℤ coordinate_on cut.axis p

-- the point is of the area, and lies before the cut or on it
pub record IsPointBelow (area : Bounds) (cut : Cut) (p : Vec3) : Type 0 where
  pub within : IsPointOf area p
  pub before : coordinate_on cut.axis p ≤ℤ cut.dist

-- the part above has exactly the area's points beyond the cut, the part below those before it, and both those on it
pub record HasPartsAtCut (area : Bounds) (cut : Cut) : Type 0 where
  pub above : (p : Vec3) → IsPointOf (part_above area) p ↔ IsPointAbove area cut p
  pub below : (p : Vec3) → IsPointOf (part_below area) p ↔ IsPointBelow area cut p

-- at a node with levels below it, the box goes on to the child on its side of the cut, and stays where it meets the cut
pub record GoesToItsSide (levels node : ℕ) (area b : Bounds) : Type 0 where
  pub above : IsAbove b (cut_of area)
      → node_from (suc levels) node area b ≡ node_from levels (child_above node) (part_above area) b
  pub below : IsBelow b (cut_of area)
      → node_from (suc levels) node area b ≡ node_from levels (child_below node) (part_below area) b
  pub stays : MeetsCut b (cut_of area) → node_from (suc levels) node area b ≡ node

-- the node of the box is in the part on its side of the root's cut, and is the root where the box meets that cut
pub record IsOnItsSide (tree : TreeView) (b : Bounds) : Type 0 where
  pub above : IsAbove b (cut_of tree.bounds) → is_over tree.depth (child_above 0) (node_of tree b) ≡ true
  pub below : IsBelow b (cut_of tree.bounds) → is_over tree.depth (child_below 0) (node_of tree b) ≡ true
  pub stays : MeetsCut b (cut_of tree.bounds) → node_of tree b ≡ 0

-- some leaf of the box is in the part of this node
pub record HasLeafUnder (tree : TreeView) (b : Bounds) (node : ℕ) : Type 0 where
  pub leaf : ℕ
  pub own : has_leaf tree b leaf ≡ true
  pub under : is_over tree.depth node (leaf_node tree.depth leaf) ≡ true

-- each leaf of the box is in the part of this node
abbrev pub HasLeavesUnder : TreeView → Bounds → ℕ → Type 0
HasLeavesUnder tree b node =
    (leaf : ℕ) → has_leaf tree b leaf ≡ true → is_over tree.depth node (leaf_node tree.depth leaf) ≡ true

-- the leaves of the box are all on its side of the root's cut, and on both where it meets that cut
pub record HasLeavesOnItsSide (tree : TreeView) (b : Bounds) : Type 0 where
  pub above : IsAbove b (cut_of tree.bounds) → HasLeavesUnder tree b (child_above 0)
  pub below : IsBelow b (cut_of tree.bounds) → HasLeavesUnder tree b (child_below 0)
  pub meets_above : MeetsCut b (cut_of tree.bounds) → HasLeafUnder tree b (child_above 0)
  pub meets_below : MeetsCut b (cut_of tree.bounds) → HasLeafUnder tree b (child_below 0)
