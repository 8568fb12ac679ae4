-- The nodes that a command needs, and the order in which they are taken; what doesn't change while seats move.
use Rattle.std.specs.Prelude.{ℕ, ◌+◌, ◌-◌, ◌^◌, ◌==◌, ◌≤◌, nat_le, Bool, ◌||◌}
use Rattle.std.specs.Prelude.{if◌then◌else◌, List, ◌++◌, map, filter}
use Rattle.std.specs.List.{list_any, range_with_len}
use Rattle.arena_geo.specs.Bounds.{Bounds}
use Rattle.entity_recs.specs.declared.rec.Rec.{Rec}
use Rattle.entity_recs.specs.declared.effect.Effect.{Effect}
use Rattle.entity_recs.specs.Bodies.{abs_of}
use Rattle.entity_recs.specs.Commands.{Command}
use Rattle.entity_recs.specs.Worlds.{World}
use Rattle.entity_recs.specs.Histories.{Action}
use Rattle.areanode.specs.Words.{has_bit}
use Rattle.areanode.specs.Trees.{TreeView, leaf_node, node_of, leaves_of, visited_of}
use Rattle.core_steps.specs.declared.sizes.TheConstants.{TABLE_NODES}

-- what doesn't change: the region and the effect of a move, which records it takes, the tree, and the world at the
-- start
pub record Fixed : Type 0 where
  pub takes : Rec → Bool
  pub region_of : Rec → Command → List Bounds
  pub effect_of : Action
  pub tree : TreeView
  pub start : World

-- the number is in the list
abbrev pub has : List ℕ → ℕ → Bool
has list n = list_any (λ other. other == n) list

-- the number of inner nodes
abbrev pub inner_nodes : Fixed → ℕ
inner_nodes F = 2 ^ F.tree.depth - 1

-- the number of nodes of the tree, for which the table may have more words
abbrev pub nodes_of : Fixed → ℕ
nodes_of F = 2 ^ (F.tree.depth + 1) - 1

-- the table has words for each node of the tree
pub record FitsTable (F : Fixed) : Type 0 where
  pub nodes : nodes_of F ≤ TABLE_NODES

-- the node is a leaf
abbrev pub is_leaf : Fixed → ℕ → Bool
is_leaf F node = nat_le (inner_nodes F) node

-- the number of a node in the order in which nodes are taken: leaves by number, then inner nodes by number
abbrev pub taking_order : Fixed → ℕ → ℕ
taking_order F node = if is_leaf F node then node - inner_nodes F else 2 ^ F.tree.depth + node

-- the nodes of a region's leaves, rising
abbrev pub leaf_nodes : Fixed → List Bounds → List ℕ
leaf_nodes F region = map (leaf_node F.tree.depth)
    (filter (has_bit (leaves_of F.tree region)) (range_with_len 0 (2 ^ F.tree.depth)))

-- the inner nodes that are visited for a region, rising
abbrev pub inner_visited : Fixed → List Bounds → List ℕ
inner_visited F region = filter (has_bit (visited_of F.tree.depth (leaves_of F.tree region)))
    (range_with_len 0 (inner_nodes F))

-- the nodes that are read for a region: its leaves, then the inner nodes, each rising
abbrev pub plan_of : Fixed → List Bounds → List ℕ
plan_of F region = leaf_nodes F region ++ inner_visited F region

-- the inner ones among two nodes, rising, without repeats
abbrev pub inner_of_two : Fixed → ℕ → ℕ → List ℕ
inner_of_two F a b = filter (λ node. (node == a) || (node == b)) (range_with_len 0 (inner_nodes F))

-- the node of a record
abbrev pub home : Fixed → Rec → ℕ
home F r = node_of F.tree (abs_of r)

-- the write nodes of an effect on this record
abbrev pub write_nodes : Fixed → Rec → Effect → List ℕ
write_nodes F before e = inner_of_two F (home F before) (home F e.me)
