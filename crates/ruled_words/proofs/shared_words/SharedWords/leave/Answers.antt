use Rattle.ruled_words.specs.Passes.{fixed_in}
use Rattle.ruled_words.proofs.VisitedNodes.{leave_next, left_node}
use Rattle.ruled_words.proofs.shared_words.SharedWords.leave.Goals as goal

pub give_on-requires-clause-next : goal.give_on-requires-clause-next
give_on-requires-clause-next g c κs within = leave_next (fixed_in g.A.Action.meaning c.args.self.now) c.args.hand.now c.args.node c.requires.own.plain c.requires.at

pub returns-clause-view : goal.returns-clause-view
returns-clause-view g c = left_node (fixed_in g.A.Action.meaning c.args.self.now) c.args.hand.now c.args.node c.requires.own.plain c.requires.at c.give_on.new.hand 0 c.give_on.ensures.pass
