use Rattle.std.proofs.Common.{length, arith}
use Rattle.ruled_words.specs.Passes.{fixed_in}
use Rattle.ruled_words.proofs.GivenBack.{released_none, release_next, released_more, released_all}
use Rattle.ruled_words.proofs.shared_words.SharedWords.release_nodes.Goals as goal

pub loop-node-init : goal.loop-node-init
loop-node-init g c = released_none (fixed_in g.A.Action.meaning c.args.self.now) (length c.args.self.now.rooms) c.args.self.now.table c.args.hand.now c.args.nodes.now c.requires.own c.requires.at

pub give_on-requires-clause-own : goal.give_on-requires-clause-own
give_on-requires-clause-own g c κs within = c.loop-node.invariant.own

pub give_on-requires-clause-next : goal.give_on-requires-clause-next
give_on-requires-clause-next g c κs within = release_next (fixed_in g.A.Action.meaning c.args.self.now) (length c.args.self.now.rooms) c.args.self.now.table c.args.hand.now c.args.nodes.now c.loop-node.hand c.loop-node.node-index c.loop-node-test.true c.loop-node.invariant

pub loop-node-preserved : goal.loop-node-preserved
loop-node-preserved g c = released_more (fixed_in g.A.Action.meaning c.args.self.now) (length c.args.self.now.rooms) c.args.self.now.table c.args.hand.now c.args.nodes.now c.loop-node.hand c.loop-node.node-index c.loop-node-test.true c.loop-node.invariant c.give_on.new.hand c.give_on.ensures.own c.give_on.ensures.pass

pub returns-clause-own : goal.returns-clause-own
returns-clause-own g c = c.loop-node.invariant.own

pub returns-clause-view : goal.returns-clause-view
returns-clause-view g c = released_all (fixed_in g.A.Action.meaning c.args.self.now) (length c.args.self.now.rooms) c.args.self.now.table c.args.hand.now c.args.nodes.now c.loop-node.hand c.loop-node.node-index (omega (arith, c.loop-node-test.false)) c.loop-node.invariant
