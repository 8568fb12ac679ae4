use Rattle.std.proofs.Common.{IsSome, sym, ap, ◌∙◌, subst}
use Rattle.world_tree.specs.Worlds.{world_of, record_of, with_record, without_id}
use Rattle.world_tree.proofs.Kept.{kept_again, world_again}
use Rattle.world_tree.proofs.world.World.relink.Goals as goal

pub invariant_of-self : goal.invariant_of-self
invariant_of-self c =
    kept_again (world_of c.self.inside.tree c.self.inside.records.items c.self.inside.lists) c.self.inside.boxes.items c.self.inside.live c.self.invariant c.args.r c.remove.new.self c.insert.new.self
    c.list_for.result c.from-place.result c.abs_box-moved.result c.from-place.ensures c.requires.record
    (subst (λ w. IsSome (record_of w c.args.r.id)) (sym c.self.view_is) c.requires.live) c.abs_box-moved.ensures
    c.remove.ensures.lists c.remove.ensures.place c.remove.ensures.proper c.list_for.ensures.list c.insert.ensures.lists c.insert.ensures.place c.insert.ensures.proper

pub returns-clause-world : goal.returns-clause-world
returns-clause-world c =
    world_again (world_of c.self.inside.tree c.self.inside.records.items c.self.inside.lists) c.self.inside.boxes.items c.self.inside.live c.self.invariant c.args.r c.remove.new.self c.insert.new.self
    c.list_for.result c.from-place.result c.abs_box-moved.result c.from-place.ensures c.abs_box-moved.ensures c.remove.ensures.lists c.list_for.ensures.list c.insert.ensures.lists
    ∙ ap (λ w. with_record (without_id w c.args.r.id) c.args.r) c.self.view_is

pub returns-clause-linked : goal.returns-clause-linked
returns-clause-linked c = (invariant_of-self c).linked
