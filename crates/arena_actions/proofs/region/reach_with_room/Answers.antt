use Rattle.std.proofs.Common.{arith}
use Rattle.arena_outcomes.specs.Regions.{reach_of}
use Rattle.arena_outcomes.proofs.Lawful.Growing.{reach_within, grows_in_range}
use Rattle.arena_actions.proofs.region.reach_with_room.Goals as goal

pub grown-requires-clause-in_range : goal.grown-requires-clause-in_range
grown-requires-clause-in_range c =
    grows_in_range _ (reach_of c.args.me.now c.args.ms) _ c.args.room c.args.room c.args.room 1097216 c.reach_of.ensures c.amount.ensures.value c.requires.room c.requires.room c.requires.room (omega arith)
    (reach_within c.args.me.now c.args.ms c.requires.record c.requires.short)
