use Rattle.std.proofs.Common.{sym, ap, ◌∙◌, ◌+◌, length, ℕ}
use Rattle.core_steps.specs.declared.sizes.TheConstants.{FIRST_STATE_WORD}
use Rattle.ruled_words.specs.Passes.{fixed_in}
use Rattle.ruled_words.proofs.Gives.{states_next, state_there}
use Rattle.region_locks.proofs.table.NodeTable.load_state.Goals as goal

pub step_word-requires-clause-comes : goal.step_word-requires-clause-comes
step_word-requires-clause-comes g c κs within = state_there _ _ c.requires.next

pub step_word-requires-clause-index : goal.step_word-requires-clause-index
step_word-requires-clause-index g c κs within =
    ap (λ (n : ℕ). n + c.from-2.result) c.from.ensures ∙ ap (λ (n : ℕ). FIRST_STATE_WORD + n) c.from-2.ensures ∙ sym (states_next (fixed_in g.A.Action.meaning c.args.self.now) (length c.args.self.now.rooms) c.args.self.now.table c.args.pass.now c.args.id c.requires.own c.requires.next).index

pub step_word-requires-clause-left : goal.step_word-requires-clause-left
step_word-requires-clause-left g c κs within = (states_next (fixed_in g.A.Action.meaning c.args.self.now) (length c.args.self.now.rooms) c.args.self.now.table c.args.pass.now c.args.id c.requires.own c.requires.next).left
