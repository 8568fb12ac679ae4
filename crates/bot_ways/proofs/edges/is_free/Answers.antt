use Rattle.bot_ways.proofs.EdgeParts.{end_in_range}
use Rattle.bot_ways.proofs.edges.is_free.Goals as goal

pub trace-requires-clause-in_range : goal.trace-requires-clause-in_range
trace-requires-clause-in_range c = rw (c.player_box-body.ensures, c.sub.ensures) (end_in_range c.args.from c.args.to c.requires.to)
