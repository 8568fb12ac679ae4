use Rattle.std.proofs.Common.{sym, ◌∙◌, length}
use Rattle.ruled_words.specs.Passes.{fixed_in}
use Rattle.ruled_words.proofs.Gives.{lists_next, list_there}
use Rattle.region_locks.proofs.table.NodeTable.load_list.Goals as goal

pub step_word-requires-clause-comes : goal.step_word-requires-clause-comes
step_word-requires-clause-comes g c κs within = list_there _ _ c.requires.next

pub step_word-requires-clause-index : goal.step_word-requires-clause-index
step_word-requires-clause-index g c κs within =
    c.from.ensures ∙ c.list_word.ensures ∙ sym (lists_next (fixed_in g.A.Action.meaning c.args.self.now) (length c.args.self.now.rooms) c.args.self.now.table c.args.pass.now c.args.node c.requires.own c.requires.next).index

pub step_word-requires-clause-left : goal.step_word-requires-clause-left
step_word-requires-clause-left g c κs within = (lists_next (fixed_in g.A.Action.meaning c.args.self.now) (length c.args.self.now.rooms) c.args.self.now.table c.args.pass.now c.args.node c.requires.own c.requires.next).left
