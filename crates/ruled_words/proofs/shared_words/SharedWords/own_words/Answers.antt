use Rattle.std.proofs.Common.{ℕ, take, refl, sym, ap, ◌∙◌, arith, is_some, Option}
use Rattle.std.proofs.lemmas.List.{length-set}
use Rattle.entity_recs.specs.Commands.{command_of}
use Rattle.core_steps.specs.Cells.{cell_of, cell_index}
use Rattle.core_steps.specs.Machine.{Next, index_of}
use Rattle.core_seats.specs.Nexts.{the_next}
use Rattle.ruled_words.specs.Passes.{PassView, fixed_in, next_of_pass, pass_after, word_after}
use Rattle.ruled_words.proofs.LoadedWords.{own_at, own_comes, own_index, own_left, own_more, own_begun, own_whole, part_size, part_more, part_whole}
use Rattle.ruled_words.proofs.shared_words.SharedWords.own_words.Goals as goal

pub step_hand-requires-clause-comes : goal.step_hand-requires-clause-comes
step_hand-requires-clause-comes g c κs within =
    let is = c.loop-k.invariant in
    let F = fixed_in g.A.Action.meaning c.args.self.now in
    let part = part_size c.loop-k.words c.loop-k.k is.2 (omega (arith, c.loop-k-test.true)) in
    ap (λ (q : PassView). is_some (next_of_pass F q)) is.1
    ∙ ap (λ (o : Option Next). is_some o) (own_comes F c.args.hand.now (command_of c.args.cmd.now) (take c.loop-k.k c.loop-k.words) (omega (arith, part, c.loop-k-test.true)))

pub step_hand-requires-clause-index : goal.step_hand-requires-clause-index
step_hand-requires-clause-index g c κs within =
    let is = c.loop-k.invariant in
    let F = fixed_in g.A.Action.meaning c.args.self.now in
    let part = part_size c.loop-k.words c.loop-k.k is.2 (omega (arith, c.loop-k-test.true)) in
    c.index_of_word.ensures ∙ ap (λ (k : ℕ). cell_index (cell_of c.args.cmd.now.slot k)) (sym part)
    ∙ sym (ap (λ (q : PassView). index_of q.view (the_next (next_of_pass F q))) is.1 ∙ own_index F c.args.hand.now (command_of c.args.cmd.now) (take c.loop-k.k c.loop-k.words) (omega (arith, part, c.loop-k-test.true)))

pub step_hand-requires-clause-left : goal.step_hand-requires-clause-left
step_hand-requires-clause-left g c κs within found =
    let is = c.loop-k.invariant in
    let F = fixed_in g.A.Action.meaning c.args.self.now in
    let part = part_size c.loop-k.words c.loop-k.k is.2 (omega (arith, c.loop-k-test.true)) in
    ap (λ (q : PassView). word_after F q found) is.1 ∙ own_left F c.args.hand.now (command_of c.args.cmd.now) (take c.loop-k.k c.loop-k.words) found (omega (arith, part, c.loop-k-test.true))

pub loop-k-init : goal.loop-k-init
loop-k-init g c =
    let F = fixed_in g.A.Action.meaning c.args.self.now in (
      c.begin_hand.ensures.own,
      c.begin_hand.ensures.pass ∙ own_begun F c.args.hand.now (command_of c.args.cmd.now) c.begin_hand.result,
      refl,
    )

pub loop-k-preserved : goal.loop-k-preserved
loop-k-preserved g c =
    let is = c.loop-k.invariant in
    let F = fixed_in g.A.Action.meaning c.args.self.now in
    let words = c.loop-k.words in
    let k = c.loop-k.k in
    let part = part_size words k is.2 (omega (arith, c.loop-k-test.true)) in (
      c.step_hand.ensures.own,
      c.step_hand.ensures.pass ∙ ap (λ (q : PassView). pass_after F (the_next (next_of_pass F q)) c.step_hand.result q) is.1
          ∙ own_more F c.args.hand.now (command_of c.args.cmd.now) (take k words) c.step_hand.result (omega (arith, part, c.loop-k-test.true))
          ∙ ap (own_at F c.args.hand.now (command_of c.args.cmd.now)) (sym (part_more words k c.step_hand.result is.2 (omega (arith, c.loop-k-test.true)))),
      length-set words k c.step_hand.result ∙ is.2,
    )

pub returns-clause-view : goal.returns-clause-view
returns-clause-view g c =
    let is = c.loop-k.invariant in
    let F = fixed_in g.A.Action.meaning c.args.self.now in
    is.1 ∙ ap (own_at F c.args.hand.now (command_of c.args.cmd.now)) (part_whole c.loop-k.words c.loop-k.k is.2 (omega (arith, c.loop-k-test.false, c.loop-k.auto.k-end)))
    ∙ own_whole F c.args.hand.now (command_of c.args.cmd.now) c.loop-k.words is.2
