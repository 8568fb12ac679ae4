use Rattle.std.proofs.Common.{sym, ap, ◌∙◌, ℕ, ◌+◌}
use Rattle.core_steps.specs.declared.sizes.TheConstants.{FIRST_LIST_WORD}
use Rattle.core_steps.specs.Cells.{without_bit}
use Rattle.core_steps.specs.Points.{stores_owed}
use Rattle.ruled_words.specs.Passes.{PassView, fixed_in}
use Rattle.region_locks.specs.NextCalls.{bit_owed}
use Rattle.region_locks.proofs.Storing.{unlinks_next, unlink_there}
use Rattle.region_locks.proofs.table.NodeTable.unlink.Goals as goal

pub step_word-requires-clause-comes : goal.step_word-requires-clause-comes
step_word-requires-clause-comes g c κs within = unlink_there _ c.requires.next

pub step_word-requires-clause-index : goal.step_word-requires-clause-index
step_word-requires-clause-index g c κs within =
    c.from.ensures ∙ c.list_word-word.ensures ∙ ap (λ (n : ℕ). FIRST_LIST_WORD + n) (c.bit_owed.ensures ∙ ap (λ (q : PassView). bit_owed (stores_owed q.view.point)) c.pass.view_is)
    ∙ sym (unlinks_next (fixed_in g.A.Action.meaning c.args.self.now) c.args.pass.now c.requires.next).index

pub step_word-requires-clause-left : goal.step_word-requires-clause-left
step_word-requires-clause-left g c κs within found =
    (unlinks_next (fixed_in g.A.Action.meaning c.args.self.now) c.args.pass.now c.requires.next).left found
    ∙ ap (λ (n : ℕ). without_bit found n) (sym (ap (λ (t : ℕ × ℕ). t.0) c.slot_and_seq-slot.ensures ∙ ap (λ (q : PassView). q.view.cmd.slot) c.pass.view_is))

pub returns-clause-pass : goal.returns-clause-pass
returns-clause-pass g c = c.step_word.ensures.pass ∙ (unlinks_next (fixed_in g.A.Action.meaning c.args.self.now) c.args.pass.now c.requires.next).blind c.step_word.result
