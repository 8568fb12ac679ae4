use Rattle.std.proofs.Common.{◌≡◌, ℕ, ◌<◌, ◌≤◌, Some, sym, ◌∙◌, ap, arith}
use Rattle.arena_geo.specs.Bounds.{Bounds}
use Rattle.areanode.specs.declared.sizes.TheConstants.{MOST_NODES}
use Rattle.areanode.specs.Depths.{sizes_of_depth}
use Rattle.areanode.specs.Trees.{TreeView, nodes_in, node_of}
use Rattle.world_tree.specs.Live.{ids_of}
use Rattle.world_tree.specs.Worlds.{record_of}
use Rattle.world_tree.proofs.Rising.{live_ids_have_records}
use Rattle.ruled_words.proofs.Worlds.{same_has, home_some, home_none}
use Rattle.ruled_words.proofs.opening.start.home_at_start.Goals as goal

pub abs_box-requires : goal.abs_box-requires
abs_box-requires c = (c.get.ensures.linked.entries c.from.result c.in-Some.r (sym c.get.ensures.record ∙ c.in-Some.is)).is_record

pub returns-in-Some-clause-home : goal.returns-in-Some-clause-home
returns-in-Some-clause-home c =
    let w = c.args.world.now in
    let is = ap (record_of w) (sym c.from.ensures) ∙ sym c.get.ensures.record ∙ c.in-Some.is in
    let node = c.node_of.ensures.node ∙ ap (λ (t : TreeView). node_of t c.abs_box.result) c.tree.ensures.tree ∙ ap (λ (b : Bounds). node_of w.tree b) c.abs_box.ensures in
    ap (λ (n : ℕ). Some n) node ∙ home_some w c.args.slot c.in-Some.r c.get.ensures.linked (same_has (ids_of w.records) c.args.slot ∙ live_ids_have_records w c.get.ensures.linked c.args.slot) c.requires.slot is

pub returns-in-None-clause-home : goal.returns-in-None-clause-home
returns-in-None-clause-home c =
    let w = c.args.world.now in
    home_none w c.args.slot (same_has (ids_of w.records) c.args.slot ∙ live_ids_have_records w c.get.ensures.linked c.args.slot) (ap (record_of w) (sym c.from.ensures) ∙ sym c.get.ensures.record ∙ c.in-None.is)

pub returns-in-Some-clause-in_range : goal.returns-in-Some-clause-in_range
returns-in-Some-clause-in_range c node is = below c.node_of.result node _ is c.node_of.ensures.in_range (sizes_of_depth _ c.node_of.ensures.depth).nodes
  where
    below : (result node depth : ℕ) → Some result ≡ Some node → result < nodes_in depth → nodes_in depth ≤ MOST_NODES → node < MOST_NODES
    below result node depth is less most =
        let same : result ≡ node = cc in
        omega (arith, same, less, most)
