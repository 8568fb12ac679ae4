-- The areas of the nodes, by number.
use Rattle.std.specs.Prelude.{◌≡◌, ℕ, zero, suc, ◌+◌, ◌*◌, ◌%◌, ◌^◌, ◌<◌, ◌≤◌, ◌==◌, nat_lt, if◌then◌else◌}
use Rattle.std.specs.Prelude.{List, length, map, slice_index_or}
use Rattle.std.specs.List.{range_with_len}
use Rattle.arena_geo.specs.Vectors.{zero_vector}
use Rattle.arena_geo.specs.Bounds.{Bounds, bounds}
use Rattle.areanode.specs.Cuts.{part_above, part_below}
use Rattle.areanode.specs.declared.sizes.TheConstants.{MOST_NODES}
use Rattle.areanode.specs.Trees.{TreeView, IsTreeDepth, leaves_in, inner_in, nodes_in, child_above, child_below, parent}

-- the area of a node, and a point where there is no such node
abbrev pub area_at : List Bounds → ℕ → Bounds
area_at areas node =
    slice_index_or areas node (bounds zero_vector zero_vector)

-- the areas of the children are the parts of the node's area
pub record HasParts (areas : List Bounds) (node : ℕ) : Type 0 where
  pub above : area_at areas (child_above node) ≡ part_above (area_at areas node)
  pub below : area_at areas (child_below node) ≡ part_below (area_at areas node)

-- the areas of all nodes of a tree of this depth, of which the inner ones are cut in two; beyond them is the root's
pub record AreCut (depth : ℕ) (areas : List Bounds) : Type 0 where
  pub is_depth : IsTreeDepth depth
  pub number : length areas ≡ MOST_NODES
  pub parts : (node : ℕ) → node < inner_in depth → HasParts areas node
  pub beyond : (node : ℕ) → nodes_in depth ≤ node → node < MOST_NODES → area_at areas node ≡ area_at areas 0

-- the node has this many levels below it, in a tree of this depth
pub record IsAtLevel (depth levels node : ℕ) : Type 0 where
  pub least : leaves_in depth ≤ (node + 1) * 2 ^ levels
  pub most : (node + 2) * 2 ^ levels ≤ 2 * leaves_in depth

-- the area of a node at most this many levels below the root: the part of its parent's area on its side
unfoldable pub area_of : ℕ → Bounds → ℕ → Bounds
area_of zero bounds node = bounds
area_of (suc levels) bounds node =
    let up = area_of levels bounds (parent node) in
    if node == 0 then bounds else (if node % 2 == 1 then part_above up else part_below up)

-- the area of a node of the tree of this depth, and all of the bounds where it has no such node
abbrev pub area_or_bounds : ℕ → Bounds → ℕ → Bounds
area_or_bounds depth bounds node = if nat_lt node (nodes_in depth) then area_of depth bounds node else bounds

-- the areas of the nodes of a tree, in room for those of the greatest depth
unfoldable pub areas_of : TreeView → List Bounds
areas_of tree = map (area_or_bounds tree.depth tree.bounds) (range_with_len 0 MOST_NODES)
