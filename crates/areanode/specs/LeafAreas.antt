-- The areas of the leaves, and the boxes that touch them.
use Rattle.std.specs.Prelude.{◌≡◌, ℕ, ◌≤ℤ◌, true, Bool, ◌&&◌}
use Rattle.arena_geo.specs.Bounds.{Bounds}
use Rattle.arena_geo.specs.Boxes.{touches_on}
use Rattle.areanode.specs.declared.cut.Cut.{Cut}
use Rattle.areanode.specs.Cuts.{low_on, high_on, cut_of}
use Rattle.areanode.specs.Trees.{TreeView, child_above, child_below, parent, leaf_node}
use Rattle.areanode.specs.Areas.{area_of}

-- neither of two boxes begins after the other ends on x or on y, whatever their heights: seen from above they touch
abbrev pub touches_flat : Bounds → Bounds → Bool
touches_flat a b = touches_on a.lo.x a.hi.x b.lo.x b.hi.x && touches_on a.lo.y a.hi.y b.lo.y b.hi.y

-- the area of a leaf
abbrev pub leaf_area : TreeView → ℕ → Bounds
leaf_area tree leaf = area_of tree.depth tree.bounds (leaf_node tree.depth leaf)

-- seen from above, the box touches the arena
abbrev pub TouchesArena : TreeView → Bounds → Type 0
TouchesArena tree b = touches_flat tree.bounds b ≡ true

-- the cut between the node and its sibling
abbrev pub cut_above : TreeView → ℕ → Cut
cut_above tree node = cut_of (area_of tree.depth tree.bounds (parent node))

-- the box has a point on the node's side of that cut, or on the cut
pub record ReachesSideOf (tree : TreeView) (b : Bounds) (node : ℕ) : Type 0 where
  pub above : node ≡ child_above (parent node) → (cut_above tree node).dist ≤ℤ high_on (cut_above tree node).axis b
  pub below : node ≡ child_below (parent node) → low_on (cut_above tree node).axis b ≤ℤ (cut_above tree node).dist
