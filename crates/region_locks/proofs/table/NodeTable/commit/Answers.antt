use Rattle.std.proofs.Common.{◌≡◌, sym, ap, ◌∙◌, subst, ℕ, IfSome}
use Rattle.ruled_words.specs.Passes.{PassView, fixed_in, effect_in_hand}
use Rattle.region_locks.proofs.Commits.{commits_next, commit_there, commit_kind, entry_is}
use Rattle.region_locks.proofs.table.NodeTable.commit.Goals as goal

pub step_word-place-requires-clause-comes : goal.step_word-place-requires-clause-comes
step_word-place-requires-clause-comes g c κs within = commit_there _ c.requires.next

pub step_word-place-requires-clause-index : goal.step_word-place-requires-clause-index
step_word-place-requires-clause-index g c κs within = sym (commits_next (fixed_in g.A.Action.meaning c.args.self.now) c.args.pass.now c.requires.next).index

pub step_word-place-requires-clause-left : goal.step_word-place-requires-clause-left
step_word-place-requires-clause-left g c κs within = (commits_next (fixed_in g.A.Action.meaning c.args.self.now) c.args.pass.now c.requires.next).left

pub returns-clause-entry : goal.returns-clause-entry
returns-clause-entry g c =
    let is = c.pass.view_is in
    let reply : IfSome (effect_in_hand c.args.pass.now) (λ e. c.reply_in_hand-reply.result ≡ e.reply) =
    subst (λ (q : PassView). IfSome (effect_in_hand q) (λ e. c.reply_in_hand-reply.result ≡ e.reply)) is c.reply_in_hand-reply.ensures in
    let both = c.slot_and_seq-slot.ensures in
    entry_is c.step_word-place.result _ _ c.args.pass.now.view.cmd c.reply_in_hand-reply.result (effect_in_hand c.args.pass.now)
    (ap (λ (t : ℕ × ℕ). t.0) both ∙ ap (λ (q : PassView). q.view.cmd.slot) is) (ap (λ (t : ℕ × ℕ). t.1) both ∙ ap (λ (q : PassView). q.view.cmd.seq) is)
    (commits_next (fixed_in g.A.Action.meaning c.args.self.now) c.args.pass.now c.requires.next).has_effect reply

pub returns-clause-seen : goal.returns-clause-seen
returns-clause-seen g c = c.step_word-place.ensures.seen (commit_kind _ c.requires.next)
