use Rattle.std.proofs.Common.{List, ap, refl, ◌∙◌, arith}
use Rattle.areanode.specs.Depths.{sizes_of_depth}
use Rattle.entity_recs.specs.declared.rec.Rec.{Rec}
use Rattle.world_tree.specs.Worlds.{world_of}
use Rattle.world_tree.specs.Queries.{near_in}
use Rattle.world_tree.proofs.Found.{near-is}
use Rattle.world_tree.proofs.world.World.near.Goals as goal

pub touched_at-marks-requires-clause-count : goal.touched_at-marks-requires-clause-count
touched_at-marks-requires-clause-count c =
    omega (arith, c.nodes.ensures.value, (sizes_of_depth _ c.nodes.ensures.range).nodes)

pub returns-clause-records : goal.returns-clause-records
returns-clause-records c =
    c.gather.ensures ∙ ap (λ (rs : List Rec). record { items = rs; room = c.args.out.now.room })
    (near-is (world_of c.self.inside.tree c.self.inside.records.items c.self.inside.lists) c.self.invariant.linked c.args.r.now c.leaves_of.ensures.region c.args.except
    _ _ _ _ _ _ _ _ c.leaves_of.ensures.leaves c.visited_nodes-nodes.ensures.nodes c.nodes.ensures.value (c.deref.ensures.value ∙ c.self.invariant.boxes_are) c.touched_at-marks.ensures c.unmark.ensures c.deref-2.ensures.value refl
    ∙ ap (λ w. near_in w.records c.args.r.now c.args.except) c.self.view_is)
