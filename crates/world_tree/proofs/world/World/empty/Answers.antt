use Rattle.std.proofs.Common.{◌*◌, ap, ◌∙◌}
use Rattle.areanode.specs.Trees.{TreeView, nodes_in}
use Rattle.entity_recs.specs.declared.limits.TheConstants.{IDS}
use Rattle.link_lists.specs.Pool.{empty_pool}
use Rattle.world_tree.specs.Worlds.{world_of, empty_world}
use Rattle.world_tree.proofs.Kept.{kept_empty}
use Rattle.world_tree.proofs.Starts.{world-is, linked_over}
use Rattle.world_tree.proofs.world.World.empty.Goals as goal

pub returns-clause-made : goal.returns-clause-made
returns-clause-made c =
    let lists =
    c.in_ok-new-2.ensures ∙ ap (λ n. empty_pool IDS (2 * n)) c.nodes.ensures.value
    ∙ ap (λ (t : TreeView). empty_pool IDS (2 * nodes_in t.depth)) c.new-tree.ensures
    in
    world-is (world_of c.new-tree.result c.in_ok-no_records.field-0.items c.in_ok-new-2.field-0) (empty_world c.args.bounds.now c.args.depth) c.new-tree.ensures c.in_ok-no_records.ensures lists

pub returns-clause-linked : goal.returns-clause-linked
returns-clause-linked c =
    let lists =
    c.in_ok-new-2.ensures ∙ ap (λ n. empty_pool IDS (2 * n)) c.nodes.ensures.value
    ∙ ap (λ (t : TreeView). empty_pool IDS (2 * nodes_in t.depth)) c.new-tree.ensures
    in
    linked_over c.args.bounds.now c.args.depth c.new-tree.result c.in_ok-no_records.field-0.items c.in_ok-new-2.field-0 c.requires c.new-tree.ensures c.in_ok-no_records.ensures lists

pub invariant_of-result : goal.invariant_of-result
invariant_of-result c =
    kept_empty _ c.in_ok-no_boxes.field-0.items c.in_ok-new.field-0 (returns-clause-linked c) c.in_ok-no_records.ensures c.in_ok-no_boxes.ensures c.in_ok-new.ensures
