use Rattle.std.proofs.Common.{◌≡◌, None, sym, subst}
use Rattle.world_tree.specs.Worlds.{world_of, record_of}
use Rattle.world_tree.proofs.Kept.{kept_with, room_for_id}
use Rattle.world_tree.proofs.world.World.add.Goals as goal

pub put-requires : goal.put-requires
put-requires c =
    room_for_id (world_of c.self.inside.tree c.self.inside.records.items c.self.inside.lists) c.self.inside.boxes.items c.self.inside.live c.self.invariant c.args.r
    c.requires.record (subst (λ w. record_of w c.args.r.id ≡ None) (sym c.self.view_is) c.requires.not_live)

pub invariant_of-self : goal.invariant_of-self
invariant_of-self c =
    kept_with (world_of c.self.inside.tree c.self.inside.records.items c.self.inside.lists) c.self.inside.boxes.items c.self.inside.live c.self.invariant c.args.r c.insert.new.self c.list_for.result
    c.from-place.result c.abs_box-abs.result c.put.new.self c.from-place.ensures c.requires.record
    (subst (λ w. record_of w c.args.r.id ≡ None) (sym c.self.view_is) c.requires.not_live) c.abs_box-abs.ensures c.list_for.ensures.list
    c.insert.ensures.lists c.insert.ensures.place c.insert.ensures.proper c.put.ensures

pub returns-clause-linked : goal.returns-clause-linked
returns-clause-linked c = (invariant_of-self c).linked
