use Rattle.std.proofs.Common.{arith}
use Rattle.entity_recs.specs.Bodies.{abs_of}
use Rattle.arena_outcomes.specs.Regions.{elsewhere}
use Rattle.arena_outcomes.proofs.Lawful.Growing.{abs_within, grows_in_range}
use Rattle.arena_outcomes.proofs.Lawful.Players.{elsewhere_is_record}
use Rattle.arena_actions.proofs.region.landing_at.Goals as goal

pub grown-requires-clause-in_range : goal.grown-requires-clause-in_range
grown-requires-clause-in_range c =
    grows_in_range _ (abs_of (elsewhere c.args.me.now c.args.dest)) _ 16384 16384 16384 1066752 c.abs_box.ensures c.amount.ensures.value (omega arith) (omega arith) (omega arith)
    (omega arith) (abs_within (elsewhere c.args.me.now c.args.dest) (elsewhere_is_record c.args.me.now c.args.dest c.requires.record c.requires.player c.requires.near))
