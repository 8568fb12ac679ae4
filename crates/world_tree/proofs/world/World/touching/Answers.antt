use Rattle.std.proofs.Common.{◌+◌, List, ap, refl, ◌∙◌, arith}
use Rattle.areanode.specs.Depths.{sizes_of_depth}
use Rattle.entity_recs.specs.declared.rec.Rec.{Rec}
use Rattle.world_tree.specs.Worlds.{world_of}
use Rattle.world_tree.specs.Queries.{touching_in, looks_for}
use Rattle.world_tree.proofs.Found.{touching-is, looks-are}
use Rattle.world_tree.proofs.world.World.touching.Goals as goal

pub touched_triggers-marks-requires-clause-count : goal.touched_triggers-marks-requires-clause-count
touched_triggers-marks-requires-clause-count g c =
    omega (arith, c.nodes-count.ensures.value, (sizes_of_depth _ c.nodes-count.ensures.range).nodes)

pub returns-clause-records : goal.returns-clause-records
returns-clause-records g c =
    c.gather.ensures ∙ ap (λ (rs : List Rec). record { items = rs; room = c.args.out.now.room })
    (touching-is (world_of c.self.inside.tree c.self.inside.records.items c.self.inside.lists) c.self.invariant.linked c.args.abs.now c.one-region.result c.one-region.ensures c.leaves_of.ensures.region
    _ _ _ _ _ _ _ c.leaves_of.ensures.leaves c.visited_nodes-nodes.ensures.nodes c.nodes-count.ensures.value (c.deref.ensures.value ∙ c.self.invariant.boxes_are) c.touched_triggers-marks.ensures.marks c.deref-2.ensures.value refl
    ∙ ap (λ w. touching_in w.records c.args.abs.now) c.self.view_is)

pub returns-clause-looks : goal.returns-clause-looks
returns-clause-looks g c =
    looks-are (world_of c.self.inside.tree c.self.inside.records.items c.self.inside.lists) c.args.abs.now c.one-region.result c.one-region.ensures
    _ _ _ _ _ c.leaves_of.ensures.leaves c.visited_nodes-nodes.ensures.nodes c.nodes-count.ensures.value c.touched_triggers-marks.ensures.looks
    ∙ ap (λ w. c.args.steps.now + looks_for w c.args.abs.now) c.self.view_is
