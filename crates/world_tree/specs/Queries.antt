-- What the queries of a world answer, as a test of all records.
use Rattle.std.specs.Prelude.{ℕ, ◌+◌, ◌==◌, Bool, ◌&&◌, not, List, [], ◌∷◌, map, filter, length, sum_by, Option}
use Rattle.std.specs.List.{range_with_len}
use Rattle.arena_geo.specs.Bounds.{Bounds}
use Rattle.arena_geo.specs.Boxes.{is_blocked}
use Rattle.arena_geo.specs.Regions.{touches_region}
use Rattle.areanode.specs.Words.{has_bit}
use Rattle.areanode.specs.Trees.{TreeView, nodes_in, leaves_of, visited_of}
use Rattle.entity_recs.specs.declared.rec.Rec.{Rec}
use Rattle.entity_recs.specs.Kinds.{is_solid}
use Rattle.entity_recs.specs.Bodies.{body_of, abs_of, is_touched}
use Rattle.link_lists.specs.Pool.{list_of}
use Rattle.world_tree.specs.Live.{live_in}
use Rattle.world_tree.specs.Worlds.{WorldView}

-- the record is another one, and its absolute box touches the region
abbrev pub is_near : List Bounds → ℕ → Rec → Bool
is_near region except r = touches_region (abs_of r) region && not (r.id == except)

-- the live records but one whose absolute boxes touch the region, in rising id
abbrev pub near_in : List (Option Rec) → List Bounds → ℕ → List Rec
near_in records region except = filter (is_near region except) (live_in records)

-- the live triggers whose absolute boxes touch this box, in rising id
abbrev pub touching_in : List (Option Rec) → Bounds → List Rec
touching_in records abs = filter (is_touched abs) (live_in records)

-- the live solids but one, in rising id
abbrev pub solids_in : List (Option Rec) → ℕ → List Rec
solids_in records except = filter (λ r. is_solid r.kind && not (r.id == except)) (live_in records)

-- no fixed box and no body of a live solid but one overlaps the body
abbrev pub is_free : List (Option Rec) → Bounds → List Bounds → ℕ → Bool
is_free records body fixed except =
    not (is_blocked body fixed) && not (is_blocked body (map body_of (solids_in records except)))

-- the nodes that are visited for the leaves of a region, in rising number
abbrev pub nodes_for : TreeView → List Bounds → List ℕ
nodes_for tree region = filter (has_bit (visited_of tree.depth (leaves_of tree region))) (range_with_len 0 (nodes_in tree.depth))

-- how many looks it takes to find the triggers that touch a box: one at each visited node, and one at each trigger
-- linked there
abbrev pub looks_for : WorldView → Bounds → ℕ
looks_for w abs =
    length (nodes_for w.tree (abs ∷ []))
    + sum_by (λ node. length (list_of w.lists (nodes_in w.tree.depth + node))) (nodes_for w.tree (abs ∷ []))
