-- The areanode tree: the node of a box, the leaves of a box and of a region, and the nodes above leaves.
use Rattle.std.specs.Prelude.{ℕ, zero, suc, ◌+◌, ◌-◌, ◌*◌, ◌/◌, ◌^◌, ◌≤◌, ◌==◌, Bool, ◌&&◌, ◌||◌, if◌then◌else◌, List}
use Rattle.std.specs.List.{list_any}
use Rattle.arena_geo.specs.Bounds.{Bounds}
use Rattle.areanode.specs.declared.sizes.TheConstants.{LEAST_DEPTH, MOST_DEPTH}
use Rattle.areanode.specs.Words.{any_below, word_of, has_bit}
use Rattle.areanode.specs.Cuts.{cut_of, part_above, part_below, is_above, is_below, reaches_above, reaches_below}

-- a depth that a tree may have
pub record IsTreeDepth (depth : ℕ) : Type 0 where
  pub least : LEAST_DEPTH ≤ depth
  pub most : depth ≤ MOST_DEPTH

-- the number of leaves of a tree of this depth
abbrev pub leaves_in : ℕ → ℕ
leaves_in depth = 2 ^ depth

-- the number of its inner nodes, which is also the node of its first leaf
abbrev pub inner_in : ℕ → ℕ
inner_in depth = 2 ^ depth - 1

-- the number of its nodes
abbrev pub nodes_in : ℕ → ℕ
nodes_in depth = 2 ^ (depth + 1) - 1

-- the tree that cuts these bounds in two, and each part again, down to this depth
pub record TreeView : Type 0 where
  pub depth : ℕ
  pub bounds : Bounds

-- the child over the part above the cut
abbrev pub child_above : ℕ → ℕ
child_above node = 2 * node + 1

-- the child over the part below the cut
abbrev pub child_below : ℕ → ℕ
child_below node = 2 * node + 2

-- the node of which this one is a child
abbrev pub parent : ℕ → ℕ
parent node = (node - 1) / 2

-- the node with this many leaves before it among the leaves of this depth
abbrev pub leaf_node : ℕ → ℕ → ℕ
leaf_node depth leaf = 2 ^ depth - 1 + leaf

-- from a node with this many levels below it: the first node whose cut the box meets, or the leaf
unfoldable pub node_from : ℕ → ℕ → Bounds → Bounds → ℕ
node_from zero node area b = node
node_from (suc levels) node area b =
    if is_above b (cut_of area) then node_from levels (child_above node) (part_above area) b
    else (if is_below b (cut_of area) then node_from levels (child_below node) (part_below area) b else node)

-- from a node with this many levels below it: the box reaches this leaf's node
unfoldable pub reaches : ℕ → ℕ → Bounds → Bounds → ℕ → Bool
reaches zero node area b end = node == end
reaches (suc levels) node area b end =
    (reaches_above b (cut_of area) && reaches levels (child_above node) (part_above area) b end)
    || (reaches_below b (cut_of area) && reaches levels (child_below node) (part_below area) b end)

-- the node at which a box is linked
abbrev pub node_of : TreeView → Bounds → ℕ
node_of tree b = node_from tree.depth 0 tree.bounds b

-- the leaf is one of the box's
-- Sets of leaves and nodes are tests, and words whose bits the tests give: callers hold words.
abbrev pub has_leaf : TreeView → Bounds → ℕ → Bool
has_leaf tree b leaf = reaches tree.depth 0 tree.bounds b (leaf_node tree.depth leaf)

-- the leaf is one of some box of the region
abbrev pub region_has_leaf : TreeView → List Bounds → ℕ → Bool
region_has_leaf tree region leaf = list_any (λ one. has_leaf tree one leaf) region

-- the leaves of a region, bit i for leaf i
abbrev pub leaves_of : TreeView → List Bounds → ℕ
leaves_of tree region = word_of (2 ^ tree.depth) (region_has_leaf tree region)

-- the node this many levels up, where the root is above itself
unfoldable pub climb : ℕ → ℕ → ℕ
climb zero node = node
climb (suc levels) node = parent (climb levels node)

-- the first node is the second or, at most this many levels up, one of its ancestors
abbrev pub is_over : ℕ → ℕ → ℕ → Bool
is_over depth node other = any_below (depth + 1) (λ levels. climb levels other == node)

-- the node is over some leaf of these
abbrev pub is_visited : ℕ → ℕ → ℕ → Bool
is_visited depth leaves node =
    any_below (2 ^ depth) (λ leaf. has_bit leaves leaf && is_over depth node (leaf_node depth leaf))

-- the nodes of these leaves and all their ancestors, bit i for node i
abbrev pub visited_of : ℕ → ℕ → ℕ
visited_of depth leaves = word_of (2 ^ (depth + 1) - 1) (is_visited depth leaves)
