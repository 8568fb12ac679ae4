-- Which nodes are nodes of the tree.
use Rattle.std.proofs.Common.{◌≡◌, ℕ, ◌+◌, ◌-◌, ◌*◌, ◌^◌, ◌<◌, ◌≤◌, true, false, List, subst, arith, add-one}
use Rattle.std.specs.Prelude.{filter}
use Rattle.std.specs.List.{range_with_len}
use Rattle.std.proofs.Math.Nat.{pow-suc}
use Rattle.std.proofs.lemmas.Bool.{leb-false}
use Rattle.arena_geo.specs.Bounds.{Bounds}
use Rattle.entity_recs.specs.declared.rec.Rec.{Rec}
use Rattle.entity_recs.specs.Bodies.{abs_of}
use Rattle.entity_recs.specs.Worlds.{World}
use Rattle.entity_recs.specs.Histories.{Item}
use Rattle.areanode.specs.Words.{has_bit}
use Rattle.areanode.specs.Trees.{leaves_of}
use Rattle.areanode.specs.Depths.{sizes_of_depth}
use Rattle.areanode.proofs.Nodes.{node_is_in_range}
use Rattle.core_steps.specs.Nodes.{Fixed, has, is_leaf, inner_nodes, nodes_of, leaf_nodes, home}
use Rattle.core_steps.specs.Points.{stage_of, is_whole}
use Rattle.core_steps.specs.Reads.{region_in}
use Rattle.core_steps.specs.Steps.{Core}
use Rattle.core_steps.specs.Stands.{Stands}
use Rattle.core_steps.specs.Laws.{EachTreeFits}
use Rattle.core_steps.proofs.Lists.{has_filter, has_range, has_shifted}

-- the table has words for a tree of this depth
pub each_tree_fits : EachTreeFits
each_tree_fits F depth = record { nodes = (sizes_of_depth F.tree.depth depth).nodes }

-- leaves come after inner nodes
pub nodes_sum : (F : Fixed) → inner_nodes F + 2 ^ F.tree.depth ≤ nodes_of F
nodes_sum F = let twice : 2 ^ (F.tree.depth + 1) ≡ 2 ^ F.tree.depth * 2 = rw add-one (pow-suc 2 F.tree.depth) in omega arith

pub inner_in : (F : Fixed) (node : ℕ) → is_leaf F node ≡ false → node < nodes_of F
inner_in F node inner = let below = leb-false (inner_nodes F) node inner in let sum = nodes_sum F in omega arith

pub home_in : (F : Fixed) (r : Rec) → home F r < nodes_of F
home_in F r = let range = node_is_in_range F.tree (abs_of r) in omega arith

pub leaf_below : (F : Fixed) (region : List Bounds) (v : ℕ) → has (leaf_nodes F region) v ≡ true → v < inner_nodes F + 2 ^ F.tree.depth
leaf_below F region v there =
    let s = has_shifted (2 ^ F.tree.depth - 1) (filter (has_bit (leaves_of F.tree region)) (range_with_len 0 (2 ^ F.tree.depth))) v there in
    let kept = has_filter (has_bit (leaves_of F.tree region)) (range_with_len 0 (2 ^ F.tree.depth)) s.from s.listed in
    let range = has_range 0 (2 ^ F.tree.depth) s.from kept.listed in
    omega (arith, s.is, range.most)

-- the leaves wanted are in range
pub wanted_below : (F : Fixed) (core : Core) (history : List Item) (now : World) (j : ℕ) → Stands F core history now → is_whole (stage_of (core.view j).point) ≡ true
    → (v : ℕ) → has (core.view j).wanted v ≡ true → v < inner_nodes F + 2 ^ F.tree.depth
wanted_below F core history now j is whole v there =
    leaf_below F (region_in F (core.view j).cmd (core.view j).own) v (subst (λ (leaves : List ℕ). has leaves v ≡ true) ((is.seats j).own.leaves whole) there)

-- so they are nodes of the tree
pub wanted_in : (F : Fixed) (core : Core) (history : List Item) (now : World) (j : ℕ) → Stands F core history now → is_whole (stage_of (core.view j).point) ≡ true
    → (v : ℕ) → has (core.view j).wanted v ≡ true → v < nodes_of F
wanted_in F core history now j is whole v there =
    let below = wanted_below F core history now j is whole v there in
    let sum = nodes_sum F in
    omega arith
