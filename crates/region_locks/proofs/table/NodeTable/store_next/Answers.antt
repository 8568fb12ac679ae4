use Rattle.std.proofs.Common.{sym, ap, ◌∙◌, ℕ}
use Rattle.core_steps.specs.Points.{stores_owed}
use Rattle.ruled_words.specs.Passes.{PassView, fixed_in}
use Rattle.region_locks.specs.NextCalls.{index_owed, word_owed}
use Rattle.region_locks.proofs.Storing.{puts_next, store_there}
use Rattle.region_locks.proofs.table.NodeTable.store_next.Goals as goal

pub step_word-requires-clause-comes : goal.step_word-requires-clause-comes
step_word-requires-clause-comes g c κs within = store_there _ c.requires.next

pub step_word-requires-clause-index : goal.step_word-requires-clause-index
step_word-requires-clause-index g c κs within =
    ap (λ (t : ℕ × ℕ). t.0) c.put_owed-word.ensures ∙ ap (λ (q : PassView). index_owed (stores_owed q.view.point)) c.pass.view_is
    ∙ sym (puts_next (fixed_in g.A.Action.meaning c.args.self.now) c.args.pass.now c.requires.next).index

pub step_word-requires-clause-left : goal.step_word-requires-clause-left
step_word-requires-clause-left g c κs within found =
    (puts_next (fixed_in g.A.Action.meaning c.args.self.now) c.args.pass.now c.requires.next).left found
    ∙ sym (ap (λ (t : ℕ × ℕ). t.1) c.put_owed-word.ensures ∙ ap (λ (q : PassView). word_owed (stores_owed q.view.point)) c.pass.view_is)

pub step_word-requires-clause-may : goal.step_word-requires-clause-may
step_word-requires-clause-may g c κs within found = ap (λ (q : PassView). q.view) ((puts_next (fixed_in g.A.Action.meaning c.args.self.now) c.args.pass.now c.requires.next).blind found _)

pub returns-clause-pass : goal.returns-clause-pass
returns-clause-pass g c = c.step_word.ensures.pass ∙ (puts_next (fixed_in g.A.Action.meaning c.args.self.now) c.args.pass.now c.requires.next).blind _ 0
