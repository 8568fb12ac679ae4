use Rattle.std.proofs.Common.{sym, ap, subst, ◌∙◌, ◌<◌, ◌==◌, length, ℕ, if◌then◌else◌, All}
use Rattle.core_steps.specs.Nodes.{Fixed, is_leaf, nodes_of}
use Rattle.core_seats.specs.Shown.{fixed_of}
use Rattle.region_locks.specs.PassLists.{pass_view}
use Rattle.ruled_words.specs.Passes.{PassView, fixed_in}
use Rattle.ruled_words.proofs.Holders.{other_holder}
use Rattle.ruled_words.proofs.Takes.{takes_next, taken_next, taken_there, taken_index, word_of_holder, held_is, wanted_below}
use Rattle.region_locks.proofs.Quitting.{may_quit_after}
use Rattle.region_locks.proofs.table.NodeTable.take.Goals as goal

pub step_word-found-requires-clause-comes : goal.step_word-found-requires-clause-comes
step_word-found-requires-clause-comes g c κs within = taken_there _ _ c.requires.next

pub step_word-found-requires-clause-index : goal.step_word-found-requires-clause-index
step_word-found-requires-clause-index g c κs within =
    c.from.ensures ∙ c.node_word.ensures ∙ sym (taken_index (fixed_in g.A.Action.meaning c.args.self.now) c.args.pass.now c.args.node _ (takes_next _ _ _ _ _ c.requires.own c.requires.next))

pub step_word-found-requires-clause-left : goal.step_word-found-requires-clause-left
step_word-found-requires-clause-left g c κs within found =
    let t = takes_next (fixed_in g.A.Action.meaning c.args.self.now) (length c.args.self.now.rooms) c.args.self.now.table c.args.pass.now c.args.node c.requires.own c.requires.next in
    t.left found
    ∙ ap (λ (w : ℕ). if found == 0 then w else found) (word_of_holder (fixed_in g.A.Action.meaning c.args.self.now) c.args.pass.now c.args.node _ t
    ∙ held_is _ _ c.args.pass.now (pass_view c.pass.inside.hand c.pass.inside.seat c.pass.inside.effect) c.number-number.result c.args.node c.held_word-new.result _ _
    (ap (fixed_of g.A.Action.meaning) c.rules.ensures)
    c.pass.view_is c.number-number.ensures c.as_slice-wanted.ensures.value c.is_in_hand-writing.ensures c.held_word-new.ensures)

pub held_word-new-requires-clause-nodes : goal.held_word-new-requires-clause-nodes
held_word-new-requires-clause-nodes g c κs within =
    subst (λ (m : ℕ). All (λ n. n < m) c.as_slice-wanted.result.now) (sym (ap nodes_of (ap (fixed_of g.A.Action.meaning) c.rules.ensures)))
    (subst (All (λ n. n < nodes_of (fixed_in g.A.Action.meaning c.args.self.now))) (sym (c.as_slice-wanted.ensures.value ∙ ap (λ (q : PassView). q.view.wanted) c.pass.view_is))
    (wanted_below _ _ _ c.args.pass.now c.args.node _ c.requires.own (takes_next (fixed_in g.A.Action.meaning c.args.self.now) (length c.args.self.now.rooms) c.args.self.now.table c.args.pass.now c.args.node c.requires.own c.requires.next)))

pub returns-else-found-eq0-clause-err : goal.returns-else-found-eq0-clause-err
returns-else-found-eq0-clause-err g c =
    let found = c.step_word-found.result in
    let F = fixed_in g.A.Action.meaning c.args.self.now in
    let holder = c.holder_in.ensures F c.args.node (c.is_leaf.ensures ∙ ap (λ (G : Fixed). is_leaf G c.args.node) (ap (fixed_of g.A.Action.meaning) c.rules-else-found-eq0.ensures)) in (
      found,
      c.step_word-found.ensures.pass,
      holder,
      other_holder (fixed_in g.A.Action.meaning c.args.self.now) (length c.args.self.now.rooms) c.args.pass.now.number c.args.node found c.holder_in.result.number c.holder_in.result.leaves
          c.requires.own.sound_sight.sound.depth (c.step_word-found.ensures.node.held c.args.node (taken_next _ _ c.requires.next) holder.is_held) holder,
      c.step_word-found.ensures.node.reached c.args.node (taken_next _ _ c.requires.next),
    )

pub returns-else-found-eq0-clause-may_quit : goal.returns-else-found-eq0-clause-may_quit
returns-else-found-eq0-clause-may_quit g c =
    may_quit_after (fixed_in g.A.Action.meaning c.args.self.now) c.args.pass.now _ c.args.node c.step_word-found.result c.requires.next c.step_word-found.ensures.pass
    (c.holder_in.ensures (fixed_in g.A.Action.meaning c.args.self.now) c.args.node (c.is_leaf.ensures ∙ ap (λ (G : Fixed). is_leaf G c.args.node) (ap (fixed_of g.A.Action.meaning) c.rules-else-found-eq0.ensures))).is_held
