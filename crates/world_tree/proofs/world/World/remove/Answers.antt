use Rattle.std.proofs.Common.{IsSome, sym, subst}
use Rattle.world_tree.specs.Worlds.{world_of, record_of}
use Rattle.world_tree.proofs.Kept.{kept_without, id_within}
use Rattle.world_tree.proofs.world.World.remove.Goals as goal

pub take_out-requires : goal.take_out-requires
take_out-requires c =
    id_within (world_of c.self.inside.tree c.self.inside.records.items c.self.inside.lists) c.self.inside.boxes.items c.self.inside.live c.self.invariant c.args.id
    (subst (λ w. IsSome (record_of w c.args.id)) (sym c.self.view_is) c.requires)

pub invariant_of-self : goal.invariant_of-self
invariant_of-self c =
    kept_without (world_of c.self.inside.tree c.self.inside.records.items c.self.inside.lists) c.self.inside.boxes.items c.self.inside.live c.self.invariant c.args.id c.from-place.result c.remove.new.self
    c.take_out.new.self c.from-place.ensures (subst (λ w. IsSome (record_of w c.args.id)) (sym c.self.view_is) c.requires) c.remove.ensures.lists c.remove.ensures.place c.remove.ensures.proper c.take_out.ensures

pub returns-clause-linked : goal.returns-clause-linked
returns-clause-linked c = (invariant_of-self c).linked
