use Rattle.std.proofs.Common.{sym, ap}
use Rattle.core_steps.specs.Nodes.{Fixed}
use Rattle.ruled_words.specs.Starts.{world_at_start}
use Rattle.ruled_words.specs.Passes.{fixed_in}
use Rattle.ruled_words.proofs.RunWorlds.{entry_in_place, world_now, closes_into}
use Rattle.ruled_words.proofs.shared_words.SharedWords.close_into.Goals as goal

pub relink_all-requires : goal.relink_all-requires
relink_all-requires g c =
    let F : Fixed = fixed_in g.A.Action.meaning c.args.self in
    let closes = c.close.ensures.closes in
    record {
      entries = λ id r at. entry_in_place F c.close.result closes.now c.args.world.now (ap world_at_start (sym c.requires.world)) c.close.ensures.start closes.ids closes.entry closes.read id r at;
    }

pub returns-clause-closes : goal.returns-clause-closes
returns-clause-closes g c =
    let F : Fixed = fixed_in g.A.Action.meaning c.args.self in
    let closes = c.close.ensures.closes in
    let world = c.relink_all.new.world in
    closes_into F c.close.result c.args.first.view closes world
    (world_now F c.close.result closes.now c.args.world.now (ap world_at_start (sym c.requires.world)) c.close.ensures.start closes.ids closes.entry closes.read world c.relink_all.ensures.records)
