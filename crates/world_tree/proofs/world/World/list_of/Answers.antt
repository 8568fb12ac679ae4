use Rattle.std.proofs.Common.{ap, ◌∙◌}
use Rattle.std.specs.Option.{option_map}
use Rattle.world_tree.specs.Worlds.{list_for, record_of}
use Rattle.world_tree.proofs.world.World.list_of.Goals as goal

pub returns-clause-own : goal.returns-clause-own
returns-clause-own c =
    c.where_is.ensures.place ∙ c.self.invariant.linked.linked c.args.id
    ∙ ap (λ w. option_map (list_for w.tree) (record_of w c.args.id)) c.self.view_is
