use Rattle.std.proofs.Common.{length}
use Rattle.ruled_words.specs.Passes.{fixed_in}
use Rattle.region_locks.proofs.Quitting.{quits_own, count_index, count_left, quit_at_once, may_begin}
use Rattle.region_locks.proofs.table.NodeTable.quit.Goals as goal

pub step_word-requires-clause-own : goal.step_word-requires-clause-own
step_word-requires-clause-own g c κs within =
    quits_own (fixed_in g.A.Action.meaning c.args.self.now) (length c.args.self.now.rooms) c.args.self.now.table _ c.args.pass.now c.pass.view_is c.requires.own c.requires.at_take

pub step_word-requires-clause-index : goal.step_word-requires-clause-index
step_word-requires-clause-index g c κs within =
    count_index (fixed_in g.A.Action.meaning c.args.self.now) _ c.args.pass.now c.holds_nothing-holds_nothing.result c.pass.view_is c.holds_nothing-holds_nothing.ensures c.if-holds_nothing.true

pub step_word-requires-clause-left : goal.step_word-requires-clause-left
step_word-requires-clause-left g c κs within found =
    count_left (fixed_in g.A.Action.meaning c.args.self.now) _ c.args.pass.now c.holds_nothing-holds_nothing.result found c.pass.view_is c.holds_nothing-holds_nothing.ensures c.if-holds_nothing.true

pub returns-then-holds_nothing-clause-pass : goal.returns-then-holds_nothing-clause-pass
returns-then-holds_nothing-clause-pass g c =
    quit_at_once (fixed_in g.A.Action.meaning c.args.self.now) _ c.args.pass.now _ c.holds_nothing-holds_nothing.result c.step_word.result c.pass.view_is
    c.holds_nothing-holds_nothing.ensures c.if-holds_nothing.true c.step_word.ensures.pass c.step_word.ensures.counted

pub returns-else-holds_nothing-clause-own : goal.returns-else-holds_nothing-clause-own
returns-else-holds_nothing-clause-own g c =
    quits_own (fixed_in g.A.Action.meaning c.args.self.now) (length c.args.self.now.rooms) c.args.self.now.table _ c.args.pass.now c.pass.view_is c.requires.own c.requires.at_take

pub returns-then-holds_nothing-clause-free : goal.returns-then-holds_nothing-clause-free
returns-then-holds_nothing-clause-free g c none =
    may_begin (fixed_in g.A.Action.meaning c.args.self.now) (length c.args.self.now.rooms) c.args.self.now.table c.args.pass.now c.step_word.new.pass c.requires.own c.requires.at_take
    (quit_at_once (fixed_in g.A.Action.meaning c.args.self.now) _ c.args.pass.now _ c.holds_nothing-holds_nothing.result c.step_word.result c.pass.view_is
    c.holds_nothing-holds_nothing.ensures c.if-holds_nothing.true c.step_word.ensures.pass c.step_word.ensures.counted) none
